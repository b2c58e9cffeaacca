-- Reading words one place at a time.
use Rattle.std.specs.Prelude.{◌≡◌, ℕ, ◌≤◌, T, List, [], ◌∷◌, ◌++◌, length, drop, Some, None, Option}
use Rattle.endless.specs.Games.{Place, ok_ps, row}

-- how many places the first word says: 1 to 16,384
abbrev pub PlacesIs : List ℕ → Option ℕ → Type 0
PlacesIs s (Some n) = (rest : List ℕ) × (s ≡ n ∷ rest) × (1 ≤ n) × (n ≤ 16384)
PlacesIs s None = (n : ℕ) (rest : List ℕ) → s ≡ n ∷ rest → 1 ≤ n → n ≤ 16384 → ⊥

-- a place p of a game of n places stands at `at`, up to `end`
pub record Stands (s : List ℕ) (at n : ℕ) (p : Place) (end : ℕ) : Type 0 where
  pub is : drop at s ≡ row (p ∷ []) ++ drop end s
  pub fine : T (ok_ps n (p ∷ []))
  pub within : end ≤ length s

-- where the place at `at` ends, or that there is none
abbrev pub PlaceEnds : List ℕ → ℕ → ℕ → Option ℕ → Type 0
PlaceEnds s at n (Some end) = (p : Place) × Stands s at n p end
PlaceEnds s at n None = (p : Place) (rest : List ℕ) → drop at s ≡ row (p ∷ []) ++ rest → T (ok_ps n (p ∷ [])) → ⊥
