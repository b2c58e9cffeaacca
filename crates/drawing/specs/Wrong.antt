-- What is wrong with a text that is refused.
use Rattle.std.specs.Prelude.{◌≡◌, ℕ, ◌+◌, ◌<◌, ◌≤◌, List, [], ◌∷◌, ◌++◌, map, length, string_bytes, slice_index_or}
use Rattle.drawing.specs.declared.kind.Kind.{Kind}
use Rattle.drawing.specs.declared.refusal.Refusal.{Refusal}
use Rattle.drawing.specs.declared.refusal.Refusal.TheVariants.{Fault, Twice, Unknown, TooManyPlaces, TooManyMoves, TooLong, NoPlaces, Memory}
use Rattle.drawing.specs.Form.{Entry, Line, place, bad}
use Rattle.drawing.specs.Reading.{lines, held, Why, faulty, twice, unknown, many_places, many_moves, long, no_places}
use Rattle.drawing.specs.Drawn.{entries}

-- line n, from 1, with the lines before it, holds this
pub record LineAt (k : Kind) (ls : List (List ℕ)) (n : ℕ) (before : List (List ℕ)) (l : Line) : Type 0 where
  pub line : List ℕ
  pub after : List (List ℕ)
  pub split : ls ≡ before ++ (line ∷ after)
  pub number : n ≡ length before + 1
  pub holds : held k line ≡ l

abbrev pub names_on : Kind → List (List ℕ) → List (List ℕ)
names_on k ls = map (λ e. e.named) (entries k ls)

abbrev pub all_moves : List Entry → ℕ
all_moves [] = 0
all_moves (e ∷ es) = length e.goes + all_moves es

abbrev pub Among : List ℕ → List (List ℕ) → Type 0
Among x xs = (i : ℕ) × (i < length xs) × (slice_index_or xs i [] ≡ x)

abbrev pub WrongLine : Kind → List (List ℕ) → Why → Type 0
WrongLine k ls (faulty n f) = (before : List (List ℕ)) × LineAt k ls n before (bad f)
WrongLine k ls (twice n x) = (before : List (List ℕ)) × (e : Entry) × LineAt k ls n before (place e) × (e.named ≡ x) × Among x (names_on k before)
WrongLine k ls (unknown n x) = (before : List (List ℕ)) × (e : Entry) × LineAt k ls n before (place e) × Among x e.goes × (Among x (names_on k ls) → ⊥)
WrongLine k ls (many_places n) = (before : List (List ℕ)) × (e : Entry) × LineAt k ls n before (place e) × (16384 ≤ length (entries k before))
WrongLine k ls (many_moves n) = (before : List (List ℕ)) × (e : Entry) × LineAt k ls n before (place e) × (64000 < all_moves (entries k before) + length e.goes)
WrongLine k ls long = ⊥
WrongLine k ls no_places = entries k ls ≡ []

abbrev pub Wrong : Kind → List ℕ → Why → Type 0
Wrong k text (faulty n f) = WrongLine k (lines text) (faulty n f)
Wrong k text (twice n x) = WrongLine k (lines text) (twice n x)
Wrong k text (unknown n x) = WrongLine k (lines text) (unknown n x)
Wrong k text (many_places n) = WrongLine k (lines text) (many_places n)
Wrong k text (many_moves n) = WrongLine k (lines text) (many_moves n)
Wrong k text long = 1572864 < length text
Wrong k text no_places = WrongLine k (lines text) no_places

-- what a refusal says of the text
abbrev pub Says : Kind → List ℕ → Refusal → Type 0
Says k text (Fault n f) = Wrong k text (faulty n f)
Says k text (Twice n s) = Wrong k text (twice n (string_bytes s))
Says k text (Unknown n s) = Wrong k text (unknown n (string_bytes s))
Says k text (TooManyPlaces n) = Wrong k text (many_places n)
Says k text (TooManyMoves n) = Wrong k text (many_moves n)
Says k text TooLong = Wrong k text long
Says k text NoPlaces = Wrong k text no_places
Says k text Memory = Unit {0}
