-- Counting the moves of a line.
use Rattle.std.proofs.Common.{◌≡◌, ℕ, suc, ◌+◌, ◌≤◌, List, [], ◌∷◌, length, Ok, Err, Result, subst, arith}
use Rattle.drawing.specs.declared.refusal.Fault.{Fault}
use Rattle.drawing.specs.Form.{Piece, colon, wrong, word, colon_first}

abbrev pub plus : ℕ → Result ℕ Fault → Result ℕ Fault
plus n (Ok k) = Ok (n + k)
plus n (Err e) = Err e

pub colon_fewer : (ps qs : List Piece) → colon_first ps ≡ Ok qs → length qs ≤ length ps
colon_fewer [] qs h = cc
colon_fewer (colon ∷ ps) qs h = let same : ps ≡ qs = cc in subst (λ l. length l ≤ suc (length ps)) same (omega arith)
colon_fewer (wrong e ∷ ps) qs h = cc
colon_fewer (word q w ∷ ps) qs h = cc
