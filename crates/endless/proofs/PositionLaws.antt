-- Positions of two words each: what is read, and what a write changes.
use Rattle.std.proofs.Common.{◌≡◌, ℕ, zero, suc, ◌+◌, ◌<◌, ◌≤◌, List, [], ◌∷◌, length, get_or, set, replicate, sym, refl, ap, ◌∙◌, arith}
use Rattle.std.proofs.Math.ListN.{get_or-map}
use Rattle.std.proofs.lemmas.List.{map-set}
use Rattle.endless.specs.Games.{Game}
use Rattle.endless.specs.Graph.{joined, positions, Listed}

pub position_is : {at : ℕ} (table : List (List ℕ)) (i : ℕ) → at ≡ joined (get_or table i []) → at ≡ get_or (positions table) i 0
position_is table i e = e ∙ sym (get_or-map joined table i [])

pub positions_set : {at : ℕ} (table : List (List ℕ)) (i : ℕ) (words : List ℕ) → joined words ≡ at → positions (set table i words) ≡ set (positions table) i at
positions_set table i words e = map-set joined table i words ∙ ap (set (positions table) i) e

pub positions_none : (n m : ℕ) → get_or (positions (replicate n (0 ∷ 0 ∷ []))) m 0 ≡ 0
positions_none zero m = refl
positions_none (suc n) zero = refl
positions_none (suc n) (suc m) = positions_none n m

-- a predecessor list ends where it starts or behind, and within the words for them
pub listed_within : {g h : Game} (offsets : List (List ℕ)) {preds : List ℕ} → Listed h (positions offsets) preds → h ≡ g → {m from to : ℕ} → m < length g
    → from ≡ joined (get_or offsets m []) → to ≡ joined (get_or offsets (m + 1) []) → (from ≤ to) × (to ≤ length preds)
listed_within {h = h} offsets listed is {m} below from_is to_is =
    let inside : m < length h = omega (arith, ap length is) in (
      omega (arith, listed.ordered m inside, position_is offsets m from_is, position_is offsets (m + 1) to_is),
      omega (arith, listed.bound m inside, position_is offsets (m + 1) to_is),
    )
