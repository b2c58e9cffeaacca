use Rattle.endless.proofs.Looking.{Looking}
use Rattle.endless.proofs.attractor.Attraction.pull_all.Given as goal

abbrev pub invariant-loop-from : goal.invariant-loop-from
invariant-loop-from l = Looking l.initial.self l.to l.from-items l.from-index l.self
