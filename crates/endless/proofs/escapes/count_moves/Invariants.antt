use Rattle.std.proofs.Common.{◌≡◌, ℕ, ◌<◌, length, get_or}
use Rattle.endless.specs.Graph.{moves}
use Rattle.endless.proofs.escapes.count_moves.Given as goal

abbrev pub invariant-loop-place : goal.invariant-loop-place
invariant-loop-place l = (n : ℕ) → n < l.place → get_or l.escapes n 0 ≡ length (moves l.graph n)
