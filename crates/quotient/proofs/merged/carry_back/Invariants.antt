use Rattle.quotient.specs.Carrying.{Carries}
use Rattle.quotient.proofs.merged.carry_back.Given as goal

abbrev pub invariant-loop-place : goal.invariant-loop-place
invariant-loop-place l = Carries l.places l.to l.answer l.initial.out l.place l.out
