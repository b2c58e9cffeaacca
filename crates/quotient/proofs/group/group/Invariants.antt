use Rattle.quotient.specs.Refining.{Grouping}
use Rattle.quotient.specs.Gathering.{Nothing}
use Rattle.quotient.proofs.group.group.Given as goal

abbrev pub invariant-loop-i : goal.invariant-loop-i
invariant-loop-i l = record { grouping : Grouping l.places l.parts l.list l.made l.heads l.links l.i; empty : Nothing l.set }
