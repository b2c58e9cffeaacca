use Rattle.quotient.proofs.Takings.{Taking}
use Rattle.quotient.proofs.round.take_out.Given as goal

abbrev pub invariant-loop-from : goal.invariant-loop-from
invariant-loop-from l = Taking l.graph l.place l.parts l.initial.out l.froms l.from-index l.sizes l.list l.out l.many
