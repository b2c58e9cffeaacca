use Rattle.std.proofs.Common.{◌≡◌, ◌+◌, drop}
use Rattle.endless.specs.Bits.{members}
use Rattle.endless.specs.Ways.{ways}
use Rattle.endless.proofs.escapes.ways_into.Given as goal

abbrev pub invariant-loop-to : goal.invariant-loop-to
invariant-loop-to l = l.count + ways (members l.set) (drop l.to-index l.to-items) ≡ ways (members l.set) l.to-items
