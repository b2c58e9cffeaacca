-- The game that words read as.
use Rattle.std.specs.Prelude.{ℕ, zero, suc, List, [], ◌∷◌, length, take, drop}
use Rattle.endless.specs.Games.{Place, Game, Reads, row}

-- so many places, read from words one after another
unfoldable pub places_in : ℕ → List ℕ → List Place
places_in zero s = []
places_in (suc n) [] = []
places_in (suc n) (w ∷ []) = []
places_in (suc n) (w ∷ k ∷ []) = []
places_in (suc n) (w ∷ k ∷ m ∷ s) = record { whose = w; weight = k; moves = take m s } ∷ places_in n (drop m s)

-- the game that words are; no matter what, where they are none
unfoldable pub game_in : List ℕ → Game
game_in [] = []
game_in (n ∷ s) = places_in n s

-- the words of a game
abbrev pub words_of : Game → List ℕ
words_of g = length g ∷ row g

-- some words read as the game
abbrev pub Playable : Game → Type 0
Playable g = Reads (words_of g) g
