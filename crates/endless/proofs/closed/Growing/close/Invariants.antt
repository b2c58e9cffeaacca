use Rattle.std.proofs.Common.{◌-◌}
use Rattle.endless.specs.Bits.{size}
use Rattle.endless.proofs.Parts.{Going}
use Rattle.endless.proofs.closed.Growing.close.Given as goal

abbrev pub invariant-loop-head : goal.invariant-loop-head
invariant-loop-head l = Going l.places l.initial.self l.self l.head

abbrev pub decreases-loop-head : goal.decreases-loop-head
decreases-loop-head l = size l.initial.self.set.now - l.head
