use Rattle.moves.proofs.Tries.{Walked}
use Rattle.moves.proofs.trying.Trying.try_all.Given as goal

abbrev pub invariant-loop-place : goal.invariant-loop-place
invariant-loop-place l = Walked l.initial.self l.place l.first l.self
