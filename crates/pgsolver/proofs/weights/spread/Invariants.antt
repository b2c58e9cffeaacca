use Rattle.std.proofs.Common.{length}
use Rattle.pgsolver.proofs.Compressing.{Spreading}
use Rattle.pgsolver.proofs.weights.spread.Given as goal

abbrev pub invariant-loop-priority : goal.invariant-loop-priority
invariant-loop-priority l = Spreading l.priorities l.weights l.left l.lowest

abbrev pub decreases-loop-priority : goal.decreases-loop-priority
decreases-loop-priority l = length l.left.entries
