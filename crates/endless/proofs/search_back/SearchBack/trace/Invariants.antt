use Rattle.std.proofs.Common.{◌+◌, ◌-◌}
use Rattle.endless.specs.Bits.{size}
use Rattle.endless.proofs.Tracing.{Queued}
use Rattle.endless.proofs.search_back.SearchBack.trace.Given as goal

abbrev pub invariant-loop-head : goal.invariant-loop-head
invariant-loop-head l = Queued l.initial.self l.head l.self

abbrev pub decreases-loop-head : goal.decreases-loop-head
decreases-loop-head l = 1 + size l.initial.self.left.now - l.head
