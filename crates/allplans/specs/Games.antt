-- Games as lists of places, and their words.
use Rattle.std.specs.Prelude.{ℕ, ◌<◌, ◌≤◌, List, ◌∷◌, length, vec_items, vec_len, slice_index, slice_index_or, flat_map}
use Rattle.allplans.specs.declared.game.Place.{Place}

-- each of the moves is to a place of the game
abbrev pub Below : ℕ → List ℕ → Type 0
Below n moves = (j : ℕ) → j < length moves → slice_index moves j < n

-- a place of a game with n places in which it may have no moves
pub record EndsPlace (n : ℕ) (p : Place) : Type 0 where
  pub side : p.whose < 2
  pub light : p.weight < 256
  pub inside : Below n (vec_items p.moves)

-- such a game: 1 to 16,384 places
pub record FineEnds (ps : List Place) : Type 0 where
  pub some_place : 0 < length ps
  pub few : length ps ≤ 16384
  pub each : (k : ℕ) (d : Place) → k < length ps → EndsPlace (length ps) (slice_index_or ps k d)

-- a place of a game with n places
pub record FinePlace (n : ℕ) (p : Place) : Type 0 where
  pub side : p.whose < 2
  pub light : p.weight < 256
  pub some_move : 0 < vec_len p.moves
  pub inside : Below n (vec_items p.moves)

-- a game: 1 to 16,384 places, each fine
pub record Fine (ps : List Place) : Type 0 where
  pub some_place : 0 < length ps
  pub few : length ps ≤ 16384
  pub each : (k : ℕ) (d : Place) → k < length ps → FinePlace (length ps) (slice_index_or ps k d)

abbrev pub place_words : Place → List ℕ
place_words p = p.whose ∷ p.weight ∷ vec_len p.moves ∷ vec_items p.moves

-- how many places, and then the words of each
abbrev pub game_words : List Place → List ℕ
game_words ps = length ps ∷ flat_map place_words ps
