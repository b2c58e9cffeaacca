-- What stands at an index of a list, or nothing.
use Rattle.std.proofs.Common.{◌≡◌, ℕ, zero, suc, ◌<◌, ◌≤◌, List, [], ◌∷◌, length, get_or, refl, arith}
use mathlib.Core.Option.{some, none}
use Rattle.endless.specs.Games.{nth}

pub nth_in : {A : Type 0} (l : List A) (i : ℕ) (d : A) → i < length l → nth l i ≡ some (get_or l i d)
nth_in [] i d h = absurd (omega arith)
nth_in (x ∷ xs) zero d h = refl
nth_in (x ∷ xs) (suc i) d h = nth_in xs i d (omega arith)

pub nth_out : {A : Type 0} (l : List A) (i : ℕ) → length l ≤ i → nth l i ≡ none
nth_out [] i h = refl
nth_out (x ∷ xs) zero h = absurd (omega arith)
nth_out (x ∷ xs) (suc i) h = nth_out xs i (omega arith)
