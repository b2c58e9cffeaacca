use Rattle.std.proofs.Common.{◌≡◌, ℕ, ◌<◌}
use Rattle.quotient.specs.Refining.{part}
use Rattle.quotient.proofs.refine.tell_by_first.Given as goal

abbrev pub invariant-loop-place : goal.invariant-loop-place
invariant-loop-place l = (n : ℕ) → n < l.place → part l.told n ≡ part l.firsts (part l.parts n)
