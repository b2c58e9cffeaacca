use Rattle.std.proofs.Common.{◌<◌, ◌≤◌, rules}
use Rattle.std.proofs.lemmas.Iterator.{first_from_Range}
use Rattle.endless.specs.Says.{side}
use Rattle.endless.proofs.Checks.{first_below}
use Rattle.endless.proofs.verdict.first_sideless.Goals as goal

pub returns : goal.returns
returns c =
    first_below (λ n. 2 ≤ side c.args.answer.now n) (λ n. side c.args.answer.now n < 2) c.args.places c.find.result
    (first_from_Range _ _ _ c.find.result _ _ c.find.ensures.ran (λ x q d. search rules) (λ x q d. search rules))
