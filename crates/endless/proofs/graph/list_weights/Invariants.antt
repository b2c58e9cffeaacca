use Rattle.endless.specs.Graph.{WeightsTo}
use Rattle.endless.proofs.graph.list_weights.Given as goal

abbrev pub invariant-loop-place : goal.invariant-loop-place
invariant-loop-place l = WeightsTo l.places l.place l.weights
