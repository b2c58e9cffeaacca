use Rattle.std.proofs.Common.{◌-◌, length}
use Rattle.distance.proofs.Pulls.{Advancing}
use Rattle.distance.proofs.spread.Spreading.spread.Given as goal

abbrev pub invariant-loop-head : goal.invariant-loop-head
invariant-loop-head l = Advancing l.initial.self l.head l.self

abbrev pub decreases-loop-head : goal.decreases-loop-head
decreases-loop-head l = length l.initial.self.graph.now - l.head
