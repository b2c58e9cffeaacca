-- The words before a place's moves.
use Rattle.std.specs.Prelude.{◌≡◌, ℕ, ◌<◌, ◌≤◌, List, ◌∷◌, map, length, Some, None, Option}
use Rattle.endless.specs.Games.{Place, row}
use Rattle.endless.specs.Sides.{number}
use Rattle.endless.specs.View.{places_in}
use Rattle.endless.specs.declared.place.Head.{Head}
use Rattle.endless.specs.declared.place.HeadWords.{HeadWords}

-- the words begin with a head: whose move it is, a weight below 256, and how many moves, at least one
pub record Begins (s : List ℕ) (h : Head) : Type 0 where
  pub rest : List ℕ
  pub is : s ≡ number h.whose ∷ h.weight ∷ h.moves ∷ rest
  pub light : h.weight < 256
  pub moving : 1 ≤ h.moves

-- the head that the words begin with, or that they begin with none
abbrev pub HeadIs : List ℕ → Option Head → Type 0
HeadIs s (Some h) = Begins s h
HeadIs s None = (w k m : ℕ) (rest : List ℕ) → s ≡ w ∷ k ∷ m ∷ rest → w < 2 → k < 256 → 1 ≤ m → ⊥

-- the words before the moves of a place that is known
abbrev pub head_of : Place → HeadWords
head_of p = record { whose = p.whose; weight = p.weight; moves = length p.moves }

-- these are the words of n places
abbrev pub Rows : ℕ → List ℕ → Type 0
Rows n s = (ps : List Place) × (length ps ≡ n) × (s ≡ row ps)

-- the heads of these places
abbrev pub heads_in : ℕ → List ℕ → List HeadWords
heads_in n s = map head_of (places_in n s)
