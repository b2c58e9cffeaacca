use Rattle.std.proofs.Common.{length, vec_items}
use Rattle.pgsolver.proofs.Gathers.{LeftNodes}
use Rattle.pgsolver.proofs.text.read_nodes.Given as goal

abbrev pub invariant-loop-here : goal.invariant-loop-here
invariant-loop-here l = LeftNodes l.text (vec_items l.nodes) l.used l.rest

abbrev pub decreases-loop-here : goal.decreases-loop-here
decreases-loop-here l = length l.rest
