use Rattle.std.proofs.Common.{take}
use Rattle.pgsolver.specs.Called.{Counts}
use Rattle.pgsolver.proofs.names.count_names.Given as goal

abbrev pub invariant-loop-place : goal.invariant-loop-place
invariant-loop-place l = Counts l.counts (take l.place-index l.places)
