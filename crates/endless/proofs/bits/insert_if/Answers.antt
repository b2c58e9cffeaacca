use Rattle.std.proofs.Common.{◌≡◌, ap, ◌∙◌}
use mir.Val.{bool_byte}
use Rattle.endless.proofs.SetLaws.{inserted, inserted_not}
use Rattle.endless.proofs.bits.insert_if.Goals as goal

pub returns-clause-inserted : goal.returns-clause-inserted
returns-clause-inserted c = λ e. let one : c.from.result ≡ 1 = c.from.ensures ∙ ap bool_byte e in rw one (inserted c.args.set.now c.args.i c.requires)

pub returns-clause-kept : goal.returns-clause-kept
returns-clause-kept c = λ e. let zero : c.from.result ≡ 0 = c.from.ensures ∙ ap bool_byte e in rw zero (inserted_not c.args.set.now c.args.i)
