use Rattle.std.proofs.Common.{◌≡◌, get_or, ◌∙◌, rules, arith}
use Rattle.std.proofs.lemmas.List.{get_or_default}
use Rattle.std.proofs.lemmas.Iterator.{YieldsList-from_slice}
use Rattle.std.proofs.lemmas.Iterator.Adapters.{serves_from_places}
use Rattle.endless.proofs.attractor.first_into.Goals as goal

pub position-requires-clause-callable : goal.position-requires-clause-callable
position-requires-clause-callable c =
    serves_from_places (YieldsList-from_slice c.args.moves.now cc) (λ x q k. search rules)
    (λ x k h e.
    let i = c.requires.inside k h in
    let s : x.now ≡ get_or c.args.moves.now k 0 = e ∙ get_or_default c.args.moves.now k _ 0 h in
    λ _ _ _ _ _ _ _ _. omega arith)
