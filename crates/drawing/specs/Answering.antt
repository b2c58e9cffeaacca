-- The answer that a text tells, and what is wrong with a text that tells none.
use Rattle.std.specs.Prelude.{◌≡◌, ℕ, ◌+◌, ◌<◌, List, [], ◌++◌, length, take, Some, None, Ok, Err, Option, Result, string_bytes, slice_get, slice_index_or, ◌⊎◌}
use Rattle.claims.specs.Answered.{Told, ToldOf, Lacks, Differ, Answered}
use Rattle.claims.specs.Tables.{Tabled}
use Rattle.claims.specs.declared.Claim.{Claim}
use Rattle.drawing.specs.declared.answer_refusal.AnswerRefusal.{AnswerRefusal}
use Rattle.drawing.specs.declared.answer_refusal.AnswerRefusal.TheVariants.{Fault, Unknown, Twice, Missing, TooLong, TooManyPlaces, SameName, Memory}
use Rattle.drawing.specs.Reading.{lines}
use Rattle.drawing.specs.Telling.{Said, nothing, tells, bad, said, told_in, told_on}

-- what a line says is of the form
abbrev pub Good : Said → Type 0
Good nothing = Unit {0}
Good (bad f) = ⊥
Good (tells t) = Unit {0}

-- the text tells the answer of these words to the game whose places have these names
pub record Tells (text : List ℕ) (names : List (List ℕ)) (words : List ℕ) : Type 0 where
  pub different : Differ names
  pub good : (k : ℕ) → k < length (lines text) → Good (said (slice_index_or (lines text) k []))
  pub answered : Answered names (told_on (lines text)) words

-- what a refusal says of line n, of what it says, and of what is told on the lines before
abbrev pub SaysOfLine : ℕ → List (List ℕ) → List (Told (List ℕ)) → Said → AnswerRefusal → Type 0
SaysOfLine n names ts s (Fault line f) = (line ≡ n) × (s ≡ bad f)
SaysOfLine n names ts s (Unknown line x) = (line ≡ n) × (t : Told (List ℕ)) × (s ≡ tells t) × ((t.named ≡ string_bytes x) ⊎ (t.goes ≡ Some (string_bytes x))) × Lacks names (string_bytes x)
SaysOfLine n names ts s (Twice line x) = (line ≡ n) × (t : Told (List ℕ)) × (s ≡ tells t) × (t.named ≡ string_bytes x) × ToldOf ts (string_bytes x)
SaysOfLine n names ts s (Missing x) = ⊥
SaysOfLine n names ts s TooLong = ⊥
SaysOfLine n names ts s TooManyPlaces = ⊥
SaysOfLine n names ts s (SameName x) = ⊥
SaysOfLine n names ts s Memory = Unit {0}

abbrev pub SaysOfSome : List ℕ → List (List ℕ) → AnswerRefusal → Type 0
SaysOfSome text names e = (k : ℕ) × (k < length (lines text)) × SaysOfLine (k + 1) names (told_on (take k (lines text))) (said (slice_index_or (lines text) k [])) e

-- what a refusal says of the text and the names
abbrev pub Says : List ℕ → List (List ℕ) → AnswerRefusal → Type 0
Says text names (Fault line f) = SaysOfSome text names (Fault line f)
Says text names (Unknown line x) = SaysOfSome text names (Unknown line x)
Says text names (Twice line x) = SaysOfSome text names (Twice line x)
Says text names (Missing x) = (i : ℕ) × (slice_get names i ≡ Some (string_bytes x)) × (ToldOf (told_on (lines text)) (string_bytes x) → ⊥)
Says text names TooLong = 2162688 < length text
Says text names TooManyPlaces = 16384 < length names
Says text names (SameName x) = (i j : ℕ) × (i < j) × (slice_get names i ≡ Some (string_bytes x)) × (slice_get names j ≡ Some (string_bytes x))
Says text names Memory = Unit {0}

-- the names are those of a game, or what is wrong with them
abbrev pub Collected : List (List ℕ) → Result (List (List ℕ)) AnswerRefusal → Type 0
Collected names (Ok all) = (all ≡ names) × Differ names
Collected names (Err e) = (text : List ℕ) → Says text names e

-- the place of the name, or that there is none
abbrev pub LookedUp : ℕ → List (List ℕ) → List ℕ → Result ℕ AnswerRefusal → Type 0
LookedUp n names x (Ok i) = slice_get names i ≡ Some x
LookedUp n names x (Err (Fault line f)) = ⊥
LookedUp n names x (Err (Unknown line y)) = (line ≡ n) × (string_bytes y ≡ x) × Lacks names x
LookedUp n names x (Err (Twice line y)) = ⊥
LookedUp n names x (Err (Missing y)) = ⊥
LookedUp n names x (Err TooLong) = ⊥
LookedUp n names x (Err TooManyPlaces) = ⊥
LookedUp n names x (Err (SameName y)) = ⊥
LookedUp n names x (Err Memory) = Unit {0}

-- the place of a move, if there is a move
abbrev pub Aimed : ℕ → List (List ℕ) → Option (List ℕ) → Result (Option ℕ) AnswerRefusal → Type 0
Aimed n names x (Ok None) = x ≡ None
Aimed n names x (Ok (Some i)) = (y : List ℕ) × (x ≡ Some y) × (slice_get names i ≡ Some y)
Aimed n names x (Err e) = (y : List ℕ) × (x ≡ Some y) × LookedUp n names y (Err e)

-- one line more is told
abbrev pub LineTold : ℕ → List (List ℕ) → List (Told (List ℕ)) → Said → List (Option Claim) → Result (Unit {0}) AnswerRefusal → Type 0
LineTold n names ts s new (Ok u) = Good s × Tabled names (ts ++ told_in s) new
LineTold n names ts s new (Err e) = SaysOfLine n names ts s e

abbrev pub AllTold : List (List ℕ) → List ℕ → Result (List (Option Claim)) AnswerRefusal → Type 0
AllTold names text (Ok claims) = ((k : ℕ) → k < length (lines text) → Good (said (slice_index_or (lines text) k []))) × Tabled names (told_on (lines text)) claims
AllTold names text (Err e) = Says text names e
