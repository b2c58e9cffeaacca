use Rattle.std.proofs.Common.{length}
use Rattle.pgsolver.proofs.Goals.{LeftGoals}
use Rattle.pgsolver.proofs.node.goals.Given as goal

abbrev pub invariant-loop-goals : goal.invariant-loop-goals
invariant-loop-goals l = LeftGoals l.used l.text (l.goals.items) l.rest

abbrev pub decreases-loop-goals : goal.decreases-loop-goals
decreases-loop-goals l = length l.rest
