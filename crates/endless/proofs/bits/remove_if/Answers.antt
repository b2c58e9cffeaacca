use Rattle.std.proofs.Common.{rules, ◌≡◌, ap, ◌∙◌}
use mir.Val.{bool_byte}
use Rattle.endless.proofs.SetLaws.{removed, removed_not}
use Rattle.endless.proofs.bits.remove_if.Goals as goal

pub returns-clause-removed : goal.returns-clause-removed
returns-clause-removed c = λ e. let one : c.from.result ≡ 1 = c.from.ensures ∙ ap bool_byte e in rw one (removed c.args.set.now c.args.i c.requires)

pub returns-clause-kept : goal.returns-clause-kept
returns-clause-kept c = λ e. let zero : c.from.result ≡ 0 = c.from.ensures ∙ ap bool_byte e in rw zero (removed_not c.args.set.now c.args.i (search rules))
