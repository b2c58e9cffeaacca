use Rattle.quotient.proofs.Firsts.{FirstsFrom}
use Rattle.quotient.proofs.refine.find_firsts.Given as goal

abbrev pub invariant-loop-place : goal.invariant-loop-place
invariant-loop-place l = FirstsFrom l.parts l.place l.firsts
