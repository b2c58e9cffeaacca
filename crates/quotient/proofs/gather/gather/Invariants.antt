use Rattle.quotient.proofs.Gathers.{Gathering}
use Rattle.quotient.proofs.gather.gather.Given as goal

abbrev pub invariant-loop-to : goal.invariant-loop-to
invariant-loop-to l = Gathering l.moves l.parts l.initial.set l.to-index l.set l.count
