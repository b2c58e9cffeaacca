-- The words of the smaller game, written place by place.
use Rattle.std.specs.Prelude.{◌≡◌, ℕ, ◌<◌, ◌≤◌, T, List, ◌∷◌, length, take, slice_index}
use Rattle.std.proofs.Math.Option.{some}
use Rattle.endless.specs.Games.{Place, Game, ok_ps, row, nth}
use Rattle.endless.specs.Graph.{Reading}
use Rattle.endless.specs.View.{words_of}
use Rattle.quotient.specs.Refining.{part}
use Rattle.quotient.specs.Numbering.{rank, MadeOf}

-- the parts whose first places are below i are written, of `count` that there are: their words end at `at`
pub record Writes (g : Game) (parts numbers : List ℕ) (count : ℕ) (before : List ℕ) (i : ℕ) (words : List ℕ) (at : ℕ) : Type 0 where
  pub places : List Place
  pub many : length places ≡ rank parts i
  pub fine : T (ok_ps count places)
  pub put : take at words ≡ count ∷ row places
  pub made : (n : ℕ) → n < i → part parts n ≡ n → (p : Place) × (nth places (rank parts n) ≡ some p) × MadeOf g numbers n p
  pub read : ℕ
  pub reading : Reading (words_of g) g i read
  pub few : at ≤ read
  pub behind : (k : ℕ) → at ≤ k → slice_index words k ≡ slice_index before k

-- all are
abbrev pub Written : Game → List ℕ → List ℕ → List ℕ → List ℕ → ℕ → Type 0
Written g parts numbers before words end = Writes g parts numbers (rank parts (length g)) before (length g) words end
