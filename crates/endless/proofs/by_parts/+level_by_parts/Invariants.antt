use Rattle.std.proofs.Common.{◌≡◌}
use Rattle.endless.specs.Bits.{members, size}
use Rattle.endless.specs.Ways.{Counted, Untouched}
use Rattle.endless.specs.Desks.{SameDesk}
use Rattle.endless.specs.Levels.{Room}
use Rattle.endless.proofs.Levels.{Leveling}
use Rattle.endless.proofs.by_parts.+level_by_parts.Given as goal

abbrev pub decreases-level_by_parts : goal.decreases-level_by_parts
decreases-level_by_parts l = l.bound

abbrev pub invariant-loop-remaining : goal.invariant-loop-remaining
invariant-loop-remaining l =
    Leveling l.graph l.initial.own l.initial.desk.out.now l.own l.desk.out.now × (l.remaining ≡ size l.own) × Room l.graph l.bound l.own l.rest l.desk × SameDesk l.initial.desk l.desk
    × Counted l.graph (members l.own) (members l.own) l.desk.escapes.now × Untouched (members l.initial.own) l.initial.desk.escapes.now l.desk.escapes.now

abbrev pub decreases-loop-remaining : goal.decreases-loop-remaining
decreases-loop-remaining l = size l.own
