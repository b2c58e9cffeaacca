use Rattle.moves.proofs.Marks.{Winners}
use Rattle.moves.proofs.solved.begin.Given as goal

abbrev pub invariant-loop-place : goal.invariant-loop-place
invariant-loop-place l = Winners l.answer l.initial.out l.place l.out
