-- What an answer has that the checker finds right.
use Rattle.std.specs.Prelude.{◌≡◌, ℕ, ◌+◌, ◌*◌, ◌/◌, ◌%◌, ◌<◌, List, length, vec_items, ◌≢◌, slice_index, slice_index_or}
use Rattle.allplans.specs.declared.game.Place.{Place}
use Rattle.allplans.specs.Rounds.{Among, NoRound}

-- each of the moves goes to a place that the side is said to win
abbrev pub AllWon : List ℕ → List ℕ → ℕ → Type 0
AllWon moves winners side = (j : ℕ) → j < length moves → slice_index winners (slice_index moves j) ≡ side

-- a place that the side is said to win, by going to `goes` where it moves
pub record Holds (p : Place) (goes : ℕ) (winners : List ℕ) (side : ℕ) : Type 0 where
  pub is_side : side < 2
  pub is_move : p.whose ≡ side → Among goes (vec_items p.moves)
  pub stays : p.whose ≡ side → slice_index winners goes ≡ side
  pub kept : (p.whose ≢ side) → AllWon (vec_items p.moves) winners side

-- no round of these places by the side's plan is of the other kind
abbrev pub NoWrongRound : List Place → List ℕ → List ℕ → ℕ → Type 0
NoWrongRound ps winners plan side = (k : ℕ) → k < 256 → (k % 2 ≢ side) → NoRound ps winners plan side k

-- an answer read from words, two for each place
pub record ReadFrom (words winners plan : List ℕ) : Type 0 where
  pub all_winners : length winners ≡ length words / 2
  pub all_planned : length plan ≡ length words / 2
  pub winner : (v : ℕ) → v < length winners → slice_index winners v ≡ slice_index words (2 * v)
  pub planned : (v : ℕ) → v < length winners → slice_index plan v ≡ slice_index words (2 * v + 1)

-- a right answer: each place holds, and no side has a round of the wrong kind among its places
pub record RightAnswer (ps : List Place) (winners plan : List ℕ) : Type 0 where
  pub all_winners : length winners ≡ length ps
  pub all_planned : length plan ≡ length ps
  pub each : (v : ℕ) (d : Place) → v < length ps → Holds (slice_index_or ps v d) (slice_index plan v) winners (slice_index winners v)
  pub rounds : (side : ℕ) → side < 2 → NoWrongRound ps winners plan side
