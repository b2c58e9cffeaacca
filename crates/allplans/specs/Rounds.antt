-- Rounds among the places that an answer gives to a side.
use Rattle.std.specs.Prelude.{◌≡◌, ℕ, suc, ◌<◌, ◌≤◌, cond, List, [], ◌∷◌, length, map, vec_items, ◌==◌, slice_index, slice_index_or}
use Rattle.allplans.specs.declared.game.Place.{Place}
use Rattle.allplans.specs.declared.view.View.{View}
use Rattle.allplans.specs.Claims.{winners, plan}
use Rattle.allplans.specs.Sides.{side_word}

abbrev pub whose : List Place → ℕ → ℕ
whose ps v = slice_index (map (λ p. p.whose) ps) v

abbrev pub weight : List Place → ℕ → ℕ
weight ps v = slice_index (map (λ p. p.weight) ps) v

abbrev pub moves : List Place → ℕ → List ℕ
moves ps v = slice_index_or (map (λ p. vec_items p.moves) ps) v []

-- x stands in the list
abbrev pub Among : ℕ → List ℕ → Type 0
Among x xs = (j : ℕ) × (j < length xs) × (slice_index xs j ≡ x)

-- where a play may go from a place if a side keeps to its plan
abbrev pub goes_to : List Place → List ℕ → ℕ → ℕ → List ℕ
goes_to ps plan side v = cond (whose ps v == side) (slice_index plan v ∷ []) (moves ps v)

-- one of the places that are given to the side, and no heavier than k
pub record Inside (ps : List Place) (winners : List ℕ) (side k v : ℕ) : Type 0 where
  pub within : v < length ps
  pub light : weight ps v ≤ k
  pub given : slice_index_or winners v 0 ≡ side

-- a round of such places, by the side's plan: n + 1 places, of which one has the weight k
pub record Round (ps : List Place) (winners plan : List ℕ) (side k : ℕ) (f : ℕ → ℕ) (n : ℕ) : Type 0 where
  pub inside : (i : ℕ) → i ≤ n → Inside ps winners side k (f i)
  pub goes : (i : ℕ) → i ≤ n → Among (f (suc i)) (goes_to ps plan side (f i))
  pub back : f (suc n) ≡ f 0
  pub heavy : (i : ℕ) × (i ≤ n) × (weight ps (f i) ≡ k)

abbrev pub NoRound : List Place → List ℕ → List ℕ → ℕ → ℕ → Type 0
NoRound ps winners plan side k = (f : ℕ → ℕ) (n : ℕ) → Round ps winners plan side k f n → ⊥

-- the same of a view
abbrev pub In : View → ℕ → Type 0
In w v = Inside w.claimed.places.now (winners w.claimed.claims.now) (side_word w.side) w.heaviest v

abbrev pub steps : View → ℕ → List ℕ
steps w v = goes_to w.claimed.places.now (plan w.claimed.claims.now) (side_word w.side) v

abbrev pub NoRoundIn : View → Type 0
NoRoundIn w = NoRound w.claimed.places.now (winners w.claimed.claims.now) (plan w.claimed.claims.now) (side_word w.side) w.heaviest

-- by the move from v to u the rank does not rise, and falls if it has to
pub record FallsBy (ranks : List ℕ) (v u : ℕ) (must : Type 0) : Type 0 where
  pub never_rises : slice_index_or ranks u 0 ≤ slice_index ranks v
  pub falls : must → slice_index ranks u < slice_index ranks v

-- by no move of the view from v does the rank rise, and it falls if v has the greatest weight
abbrev pub FallsAt : View → List ℕ → ℕ → Type 0
FallsAt w ranks v = In w v → (u : ℕ) → Among u (steps w v) → In w u → FallsBy ranks v u (weight w.claimed.places.now v ≡ w.heaviest)

abbrev pub Falls : View → List ℕ → Type 0
Falls w ranks = (v : ℕ) → FallsAt w ranks v
