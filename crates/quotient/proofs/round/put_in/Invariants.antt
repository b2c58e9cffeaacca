use Rattle.quotient.proofs.Returns.{Returning}
use Rattle.quotient.proofs.round.put_in.Given as goal

abbrev pub invariant-loop-i : goal.invariant-loop-i
invariant-loop-i l = Returning l.places l.fn.partition.parts.now l.list l.count l.i l.parts l.sizes l.fresh l.out l.many l.listed
