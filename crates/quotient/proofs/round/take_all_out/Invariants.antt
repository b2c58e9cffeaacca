use Rattle.quotient.proofs.Takings.{TakingAll}
use Rattle.quotient.proofs.round.take_all_out.Given as goal

abbrev pub invariant-loop-place : goal.invariant-loop-place
invariant-loop-place l = TakingAll l.graph l.parts l.fresh l.place-index l.sizes l.list l.out l.many
