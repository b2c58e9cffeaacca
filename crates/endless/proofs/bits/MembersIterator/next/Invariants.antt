use Rattle.std.proofs.Common.{◌≡◌, length}
use Rattle.endless.specs.Listed.{members_left, Numbered}
use Rattle.endless.proofs.bits.MembersIterator.next.Given as goal

abbrev pub invariant-loop-self : goal.invariant-loop-self
invariant-loop-self l = (members_left l.self ≡ members_left l.initial.self) × Numbered l.self

abbrev pub decreases-loop-self : goal.decreases-loop-self
decreases-loop-self l = length l.self.words.now
