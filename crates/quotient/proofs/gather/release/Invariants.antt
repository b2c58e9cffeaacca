use Rattle.quotient.proofs.Gathers.{Releasing}
use Rattle.quotient.proofs.gather.release.Given as goal

abbrev pub invariant-loop-to : goal.invariant-loop-to
invariant-loop-to l = Releasing l.moves l.parts l.initial.set l.to-index l.set
