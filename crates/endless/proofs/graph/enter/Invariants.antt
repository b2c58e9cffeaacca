use Rattle.endless.specs.Graph.{positions}
use Rattle.endless.proofs.Lists.{Enters}
use Rattle.endless.proofs.graph.enter.Given as goal

abbrev pub invariant-loop-target : goal.invariant-loop-target
invariant-loop-target l =
    Enters l.targets l.place (positions l.initial.ends) l.initial.preds l.target-index (positions l.ends) l.preds
