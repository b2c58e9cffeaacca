use Rattle.endless.specs.Bits.{size}
use Rattle.quotient.proofs.Members.{Emptying}
use Rattle.quotient.proofs.write.write_members.Given as goal

abbrev pub invariant-loop-part : goal.invariant-loop-part
invariant-loop-part l = Emptying l.initial.set l.initial.words l.at l.set l.words l.end l.from

abbrev pub decreases-loop-part : goal.decreases-loop-part
decreases-loop-part l = size l.set
