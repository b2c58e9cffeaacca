use Rattle.distance.specs.Distances.{Cleared}
use Rattle.distance.proofs.spread.clear.Given as goal

abbrev pub invariant-loop-place : goal.invariant-loop-place
invariant-loop-place l = Cleared l.places l.place l.initial.out l.out l.awaited
