use Rattle.std.proofs.Common.{◌+◌, ◌*◌, ◌/◌, ◌<◌, length}
use Rattle.endless.specs.Bits.{members}
use Rattle.endless.proofs.Scans.{Passed}
use Rattle.endless.proofs.bits.next.Given as goal

abbrev pub invariant-loop-k : goal.invariant-loop-k
invariant-loop-k l = (l.start < 32) × Passed (members l.set) l.from (32 * (l.from / 32 + length l.yielded) + l.start)
