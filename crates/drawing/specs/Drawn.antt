-- A drawing and the game that it draws.
use Rattle.std.specs.Prelude.{◌≡◌, ℕ, ◌<◌, List, [], ◌∷◌, map, length, get_or, ◌≢◌, slice_index_or}
use Rattle.endless.specs.Games.{Place, Game, Reads}
use Rattle.ends.specs.Ends.{ReadsEnds}
use Rattle.drawing.specs.declared.kind.Kind.{Kind}
use Rattle.drawing.specs.declared.kind.Kind.TheVariants.{Endless, WithEnds}
use Rattle.drawing.specs.Form.{Entry, Line, nothing, place, bad}
use Rattle.drawing.specs.Reading.{lines, held}

-- what the lines that hold a place say, in their order
abbrev pub with_entry : Line → List Entry → List Entry
with_entry nothing es = es
with_entry (bad f) es = es
with_entry (place e) es = e ∷ es

abbrev pub entries : Kind → List (List ℕ) → List Entry
entries k [] = []
entries k (l ∷ ls) = with_entry (held k l) (entries k ls)

-- a line holds a place, or nothing
abbrev pub Good : Line → Type 0
Good nothing = Unit {0}
Good (bad f) = ⊥
Good (place e) = Unit {0}

abbrev pub AllGood : Kind → List (List ℕ) → Type 0
AllGood k [] = Unit {0}
AllGood k (l ∷ ls) = Good (held k l) × AllGood k ls

-- the place is as its line says: the side, the weight, and move by move the name of where it goes
pub record Placed (names : List (List ℕ)) (e : Entry) (p : Place) : Type 0 where
  pub owns : p.whose ≡ e.side
  pub heavy : p.weight ≡ e.weighs
  pub moved : map (λ i. get_or names i []) p.moves ≡ e.goes

abbrev pub Places : List (List ℕ) → List Entry → Game → Type 0
Places names [] [] = Unit {0}
Places names [] (p ∷ ps) = ⊥
Places names (e ∷ es) [] = ⊥
Places names (e ∷ es) (p ∷ ps) = Placed names e p × Places names es ps

-- the words are those of the game: of one in which each place has a move, or of one in which a place may have none
abbrev pub ReadsAs : Kind → List ℕ → Game → Type 0
ReadsAs Endless words g = Reads words g
ReadsAs WithEnds words g = ReadsEnds words g

-- the text draws the game of these words, whose places have these names
pub record Drawn (k : Kind) (text : List ℕ) (names : List (List ℕ)) (words : List ℕ) : Type 0 where
  pub game : Game
  pub reads : ReadsAs k words game
  pub many : length names ≡ length game
  pub good : AllGood k (lines text)
  pub named : map (λ e. e.named) (entries k (lines text)) ≡ names
  pub different : (i j : ℕ) → i < j → j < length names → slice_index_or names i [] ≢ slice_index_or names j []
  pub places : Places names (entries k (lines text)) game
