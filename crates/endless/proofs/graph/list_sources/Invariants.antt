use Rattle.endless.specs.Graph.{positions}
use Rattle.endless.proofs.Preds.{Listing}
use Rattle.endless.proofs.graph.list_sources.Given as goal

abbrev pub invariant-loop-v : goal.invariant-loop-v
invariant-loop-v l = Listing l.places l.v (positions l.ends) l.preds
