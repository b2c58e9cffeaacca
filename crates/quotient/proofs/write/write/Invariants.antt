use Rattle.std.proofs.Common.{length}
use Rattle.quotient.specs.Gathering.{Nothing}
use Rattle.quotient.specs.Numbering.{rank}
use Rattle.quotient.specs.Writing.{Writes}
use Rattle.quotient.proofs.write.write.Given as goal

abbrev pub invariant-loop-place : goal.invariant-loop-place
invariant-loop-place l = record { writes : Writes l.places l.parts l.numbers (rank l.parts (length l.places)) l.fn.words l.place l.words l.at; empty : Nothing l.set }
