use Rattle.endless.proofs.Parts.{Over}
use Rattle.endless.proofs.closed.Growing.take_all.Given as goal

abbrev pub invariant-loop-place : goal.invariant-loop-place
invariant-loop-place l = Over l.initial.self l.places l.place-index l.self
