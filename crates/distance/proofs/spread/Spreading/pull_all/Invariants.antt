use Rattle.distance.proofs.Pulls.{Pulling}
use Rattle.distance.proofs.spread.Spreading.pull_all.Given as goal

abbrev pub invariant-loop-from : goal.invariant-loop-from
invariant-loop-from l = Pulling l.initial.self l.to l.number l.from-index l.self
