-- Lines that are written one after another.
use Rattle.std.proofs.Common.{◌≡◌, ℕ, zero, suc, ◌+◌, List, [], ◌∷◌, ◌++◌, sym, ap, ◌∙◌, append_assoc, arith}
use native.Mathlib.Numerals.{add-one}
use Rattle.std.specs.List.{flat_map, range_with_len}
use Rattle.std.specs.Fmt.{decimal}
use Rattle.std.proofs.lemmas.List.{flat_map_more}
use Rattle.drawing.specs.Spelling.{spelling}
use Rattle.drawing.specs.Sheets.{before_moves}

range_push : (a n m : ℕ) → m ≡ a + n → range_with_len a (suc n) ≡ range_with_len a n ++ m ∷ []
range_push a zero m e = ap (λ x. x ∷ []) (omega (arith, e))
range_push a (suc n) m e = ap (λ l. a ∷ l) (range_push (a + 1) n m (omega (arith, e)))

-- what is written of one more number
pub one_more : (f : ℕ → List ℕ) (n : ℕ) → flat_map f (range_with_len 0 n) ++ f n ≡ flat_map f (range_with_len 0 (n + 1))
one_more f n = flat_map_more f [] (range_with_len 0 n) n ∙ sym (ap (flat_map f) (ap (range_with_len 0) (add-one n) ∙ range_push 0 n n (omega arith)))

-- what follows a line follows its moves
pub before_on : (x : List ℕ) (s w : ℕ) (ms r : List ℕ) → before_moves x s w ms ++ r ≡ before_moves x s w (ms ++ r)
before_on x s w ms r =
    append_assoc (spelling x) (32 ∷ (decimal s ++ (32 ∷ (decimal w ++ (58 ∷ ms))))) r
    ∙ ap (λ l. spelling x ++ (32 ∷ l)) (append_assoc (decimal s) (32 ∷ (decimal w ++ (58 ∷ ms))) r ∙ ap (λ l. decimal s ++ (32 ∷ l)) (append_assoc (decimal w) (58 ∷ ms) r))

-- a line in three parts, as it is written
pub in_parts : (x : List ℕ) (s w : ℕ) (ms : List ℕ) → before_moves x s w [] ++ (ms ++ (10 ∷ [])) ≡ before_moves x s w ms ++ (10 ∷ [])
in_parts x s w ms = before_on x s w [] (ms ++ (10 ∷ [])) ∙ sym (before_on x s w ms (10 ∷ []))
