use Rattle.std.proofs.Common.{rules, arith}
use Rattle.std.proofs.lemmas.Grind.{get_or_default_zero}
use Rattle.std.proofs.lemmas.Iterator.{YieldsList-from_slice}
use Rattle.std.proofs.lemmas.Iterator.Adapters.{serves_from_places}
use Rattle.std.proofs.lemmas.Iterator.Consumers.{YieldsList-from_copied}
use Rattle.endless.proofs.look.first_out.Goals as goal

pub find-requires-clause-callable : goal.find-requires-clause-callable
find-requires-clause-callable c = serves_from_places (YieldsList-from_copied (YieldsList-from_slice c.args.moves.now (search rules))) (λ x q d. search rules)
    (λ x k h e. let at = get_or_default_zero c.args.moves.now k x h in λ y p. grind (arith, p, e, at, c.requires.inside k h, c.requires.same))
