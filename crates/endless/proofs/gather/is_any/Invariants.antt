use Rattle.std.proofs.Common.{ℕ, List, false, length}
use Rattle.endless.specs.Parts.{Gives, AnyAt, wanted, mark}
use Rattle.endless.proofs.gather.is_any.Given as goal

abbrev pub invariant-loop-place : goal.invariant-loop-place
invariant-loop-place g l = (list : List ℕ) → Gives g.I.Iterator.next_gives l.fn.places list → AnyAt (wanted l.winner l.out) (mark l.winner) list (length l.yielded) false
