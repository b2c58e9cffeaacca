use Rattle.moves.proofs.Tries.{Tried}
use Rattle.moves.proofs.trying.Trying.try_place.Given as goal

abbrev pub invariant-loop-k : goal.invariant-loop-k
invariant-loop-k l = Tried l.initial.self l.first l.k l.self
