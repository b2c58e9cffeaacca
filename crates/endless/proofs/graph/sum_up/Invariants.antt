use Rattle.endless.specs.Graph.{positions}
use Rattle.endless.proofs.Totals.{Summed}
use Rattle.endless.proofs.graph.sum_up.Given as goal

abbrev pub invariant-loop-count : goal.invariant-loop-count
invariant-loop-count l = Summed (positions l.initial.counts) l.count-index (positions l.counts) l.sum
