use Rattle.std.proofs.Common.{length}
use Rattle.drawing.specs.Reading.{lines}
use Rattle.drawing.proofs.Tellings.{ToldTo}
use Rattle.drawing.proofs.answer.tell_all.Given as goal

abbrev pub invariant-loop-number : goal.invariant-loop-number
invariant-loop-number l = ToldTo l.names (lines l.text) (length l.yielded) l.claims
