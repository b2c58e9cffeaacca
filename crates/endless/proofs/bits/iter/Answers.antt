use Rattle.std.proofs.Common.{refl, sym, ◌∙◌}
use Rattle.endless.proofs.MemberLists.{end_left, none_left}
use Rattle.endless.proofs.bits.iter.Goals as goal

pub returns-in-None-clause-left : goal.returns-in-None-clause-left
returns-in-None-clause-left c =
    let none = c.in-None.ensures.cases in
    end_left 0 c.args.set.now refl none ∙ sym (none_left 0 c.args.set.now none)
