-- How a game is written as a drawing.
use Rattle.std.specs.Prelude.{◌≡◌, ◌≢◌, ℕ, ◌<◌, ◌≤◌, List, [], ◌∷◌, ◌++◌, Ok, length, flat_map, slice_index_or}
use Rattle.std.specs.List.{range_with_len}
use Rattle.std.specs.Fmt.{decimal}
use Rattle.endless.specs.Games.{Game, Reads, whose, weight}
use Rattle.endless.specs.Graph.{moves, edges}
use Rattle.drawing.specs.declared.kind.Kind.TheVariants.{Endless}
use Rattle.drawing.specs.Spelling.{spelling, IsName}
use Rattle.drawing.specs.Drawn.{Drawn}
use Rattle.drawing.specs.Reading.{reading}

-- what a place is called
abbrev pub named : List (List ℕ) → ℕ → List ℕ
named names n = slice_index_or names n []

abbrev pub move_text : List (List ℕ) → ℕ → List ℕ
move_text names m = 32 ∷ spelling (named names m)

-- NAME SIDE WEIGHT: NAME NAME ..
abbrev pub before_moves : List ℕ → ℕ → ℕ → List ℕ → List ℕ
before_moves x s w ms = spelling x ++ (32 ∷ (decimal s ++ (32 ∷ (decimal w ++ (58 ∷ ms)))))

abbrev pub line_of : Game → List (List ℕ) → ℕ → List ℕ
line_of g names n = before_moves (named names n) (whose g n) (weight g n) (flat_map (move_text names) (moves g n))

-- a line with its end
unfoldable pub line_text : Game → List (List ℕ) → ℕ → List ℕ
line_text g names n = line_of g names n ++ (10 ∷ [])

abbrev pub sheet : Game → List (List ℕ) → List ℕ
sheet g names = flat_map (line_text g names) (range_with_len 0 (length g))

-- names for the places of a game: one for each, which a drawing may have, and no two alike
pub record NamesOf (g : Game) (names : List (List ℕ)) : Type 0 where
  pub many : length names ≡ length g
  pub each : (n : ℕ) → n < length names → IsName (named names n)
  pub different : (i j : ℕ) → i < j → j < length names → named names i ≢ named names j

-- the text draws the words of the game, with these names; and where it is within the limits, it reads as them
pub record Draws (text : List ℕ) (g : Game) (names : List (List ℕ)) : Type 0 where
  pub drawn : (words : List ℕ) → Reads words g → Drawn Endless text names words
  pub read : (words : List ℕ) → Reads words g → length text ≤ 1572864 → edges g ≤ 64000 → reading Endless text ≡ Ok (names, words)
