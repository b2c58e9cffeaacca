use Rattle.std.proofs.Common.{◌+◌, ◌*◌, ap, ◌∙◌, arith, rules}
use mathlib.Core.Option.{some}
use Rattle.endless.proofs.Nth.{nth_in}
use Rattle.endless.proofs.answer.goes_to.Goals as goal

pub returns : goal.returns
returns c =
    let f = c.in_ok-word.ensures.lookup.3 in
    nth_in c.args.answer.now (2 * c.args.place.0 + 1) 0 (omega arith) ∙ ap some (search rules)
