use Rattle.endless.specs.Sides.{number}
use Rattle.endless.proofs.Checks.{GivenTo}
use Rattle.endless.proofs.verdict.gather_given.Given as goal

abbrev pub invariant-loop-place : goal.invariant-loop-place
invariant-loop-place l = GivenTo l.answer (number l.side) l.place l.set
