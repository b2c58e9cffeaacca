use Rattle.std.proofs.Common.{◌≡◌, ℕ, List, length}
use Rattle.endless.specs.Bits.{members}
use Rattle.endless.specs.Ways.{RecountedAt}
use Rattle.endless.specs.Parts.{Gives}
use Rattle.endless.proofs.escapes.count_each.Given as goal

abbrev pub invariant-loop-place : goal.invariant-loop-place
invariant-loop-place g l =
    (length l.escapes ≡ length l.initial.escapes)
    × ((list : List ℕ) → Gives g.I.Iterator.next_gives l.fn.places list → RecountedAt l.graph (members l.set) list (length l.yielded) l.initial.escapes l.escapes)
