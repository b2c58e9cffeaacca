-- How many moves of a place lead into a set, and how that number falls while places go from what is left of the set into a queue.
use Rattle.std.specs.Prelude.{◌≡◌, ℕ, zero, suc, ◌+◌, ◌<◌, cond, List, [], ◌∷◌, slice_index}
use Rattle.endless.specs.Games.{Game}
use Rattle.endless.specs.Sets.{Set, In, Out}
use Rattle.endless.specs.Bits.{members}
use Rattle.endless.specs.Graph.{moves, times}

-- how many of these places are in a set, each as often as it stands there
abbrev pub ways : Set → List ℕ → ℕ
ways U [] = 0
ways U (m ∷ ms) = cond (U m) 1 0 + ways U ms

-- how often the first k places of a queue stand among these, together
abbrev pub queued : List ℕ → ℕ → List ℕ → ℕ
queued q zero ms = 0
queued q (suc k) ms = times (slice_index q k) ms + queued q k ms

-- for each place of L, how many of its moves lead into U
abbrev pub Counted : Game → Set → Set → List ℕ → Type 0
Counted g U L escapes = (n : ℕ) → In L n → slice_index escapes n ≡ ways U (moves g n)

-- no place of L is without a move that counts
abbrev pub Open : Set → List ℕ → Type 0
Open L escapes = (n : ℕ) → In L n → 0 < slice_index escapes n

-- for each place that is left, its moves that lead to what is left, to the places of the queue from `head` on, and once more to the one that is gone through, if the place is yet to come among its predecessors ns
abbrev pub Awaited : Game → List ℕ → List ℕ → List ℕ → ℕ → ℕ → List ℕ → Type 0
Awaited g left queue escapes head tail ns =
    (n : ℕ) → In (members left) n → slice_index escapes n + queued queue head (moves g n) ≡ (ways (members left) (moves g n) + queued queue tail (moves g n)) + times n ns

-- the numbers of the places outside a set are as they were
abbrev pub Untouched : Set → List ℕ → List ℕ → Type 0
Untouched U escapes escapes' = (n : ℕ) → Out U n → slice_index escapes' n ≡ slice_index escapes n

-- one move of a place counts no longer, if the place is in the set
pub record Lowered (U : Set) (n : ℕ) (escapes escapes' : List ℕ) : Type 0 where
  pub here : In U n → slice_index escapes' n + 1 ≡ slice_index escapes n
  pub gone : Out U n → slice_index escapes' n ≡ slice_index escapes n
  pub others : (k : ℕ) → (k ≡ n → ⊥) → slice_index escapes' k ≡ slice_index escapes k

-- the numbers of a set R are counted anew, and those outside are as they were
pub record Recounted (g : Game) (U R : Set) (escapes escapes' : List ℕ) : Type 0 where
  pub counted : Counted g U R escapes'
  pub rest : Untouched R escapes escapes'

-- those of the first i places of a list are
pub record RecountedAt (g : Game) (U : Set) (list : List ℕ) (i : ℕ) (escapes escapes' : List ℕ) : Type 0 where
  pub counted : (j : ℕ) → j < i → slice_index escapes' (slice_index list j) ≡ ways U (moves g (slice_index list j))
  pub rest : (n : ℕ) → ((j : ℕ) → j < i → slice_index list j ≡ n → ⊥) → slice_index escapes' n ≡ slice_index escapes n
