use Rattle.std.proofs.Common.{◌≡◌, ◌+◌, ◌-◌}
use Rattle.endless.specs.Bits.{size}
use Rattle.endless.proofs.Queueing.{Queueing}
use Rattle.endless.proofs.attractor.Attraction.attract.Given as goal

abbrev pub invariant-queue : goal.invariant-queue
invariant-queue l = Queueing l.initial.self l.head l.self × (l.all ≡ l.initial.self.tail + size l.initial.self.left.now)

abbrev pub decreases-queue : goal.decreases-queue
decreases-queue l = l.all - l.head
