use Rattle.std.proofs.Common.{ℕ, ◌<◌, get_or}
use Rattle.endless.specs.Sets.{In}
use Rattle.endless.specs.Bits.{members}
use Rattle.quotient.proofs.alike.all_within.Given as goal

abbrev pub invariant-loop-to : goal.invariant-loop-to
invariant-loop-to l = (k : ℕ) → k < l.to-index → In (members l.set) (get_or l.parts (get_or l.moves k 0) 0)
