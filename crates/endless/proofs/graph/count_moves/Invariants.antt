use Rattle.std.proofs.Common.{take}
use Rattle.endless.specs.Graph.{positions, Counts}
use Rattle.endless.proofs.graph.count_moves.Given as goal

abbrev pub invariant-loop-target : goal.invariant-loop-target
invariant-loop-target l = Counts (positions l.initial.counts) (take l.target-index l.targets) (positions l.counts)
