use Rattle.std.proofs.Common.{◌≡◌, ◌+◌, length}
use Rattle.allplans.specs.Sets.{missing}
use Rattle.allplans.proofs.plans.Plan.reached.Given as goal

abbrev pub invariant-loop-to : goal.invariant-loop-to
invariant-loop-to l = length l.open.items + missing l.reached.marks.items ≡ length l.initial.open.items + missing l.initial.reached.marks.items

abbrev pub decreases-loop-place : goal.decreases-loop-place
decreases-loop-place l = length l.open.items + missing l.reached.marks.items
