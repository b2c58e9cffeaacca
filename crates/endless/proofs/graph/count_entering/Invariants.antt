use Rattle.endless.specs.Graph.{positions}
use Rattle.endless.proofs.Preds.{Counting}
use Rattle.endless.proofs.graph.count_entering.Given as goal

abbrev pub invariant-loop-v : goal.invariant-loop-v
invariant-loop-v l = Counting l.places l.v (positions l.counts)
