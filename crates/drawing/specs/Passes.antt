-- What the passes over the lines give.
use Rattle.std.specs.Prelude.{◌≡◌, ℕ, ◌<◌, ◌≤◌, List, [], ◌∷◌, length, Some, Ok, Err, vec_items, string_bytes, Result, Vec, MatchResult, slice_index_or}
use Rattle.std.specs.declared.alloc.Global.{Global}
use Rattle.drawing.specs.declared.kind.Kind.{Kind}
use Rattle.drawing.specs.declared.names.Names.{Names}
use Rattle.drawing.specs.declared.refusal.Refusal.{Refusal}
use Rattle.drawing.specs.declared.refusal.Refusal.TheVariants.{Fault, Twice, Unknown, TooManyPlaces, TooManyMoves, TooLong, NoPlaces, Memory}
use Rattle.drawing.specs.Reading.{lines, held, Why, faulty, twice, unknown, many_places, many_moves, long, no_places, add_new, name_line, name_lines, index_of, or_unknown, goals, word_line, word_lines}

-- the refusal says why; want of memory says nothing
abbrev pub Refuses : {A : Type 0} → Result A Why → Refusal → Type 0
Refuses x (Fault n f) = x ≡ Err (faulty n f)
Refuses x (Twice n s) = x ≡ Err (twice n (string_bytes s))
Refuses x (Unknown n s) = x ≡ Err (unknown n (string_bytes s))
Refuses x (TooManyPlaces n) = x ≡ Err (many_places n)
Refuses x (TooManyMoves n) = x ≡ Err (many_moves n)
Refuses x TooLong = x ≡ Err long
Refuses x NoPlaces = x ≡ Err no_places
Refuses x Memory = Unit {0}

-- name x of line n is added
abbrev pub Added : ℕ → List ℕ → List (List ℕ) → List (List ℕ) → Result (Unit {0}) Refusal → Type 0
Added n x old new r = MatchResult r (λ _. add_new n old x (index_of x old) ≡ Ok new) (λ e. Refuses (add_new n old x (index_of x old)) e)

-- one line more is read
abbrev pub Named : Kind → ℕ → List ℕ → List (List ℕ) → List (List ℕ) → Result (Unit {0}) Refusal → Type 0
Named k n line old new r = MatchResult r (λ _. name_line n old (held k line) ≡ Ok new) (λ e. Refuses (name_line n old (held k line)) e)

abbrev pub Gathered : Kind → List ℕ → Result Names Refusal → Type 0
Gathered k text r = MatchResult r (λ t. name_lines k 1 [] (lines text) ≡ Ok t) (λ e. Refuses (name_lines k 1 [] (lines text)) e)

-- each name stands at one place alone
abbrev pub Apart : List (List ℕ) → Type 0
Apart names = (i : ℕ) → i < length names → index_of (slice_index_or names i []) names ≡ Some i

abbrev pub Found : ℕ → List (List ℕ) → List ℕ → Result ℕ Refusal → Type 0
Found n names x r = MatchResult r (λ i. or_unknown n x (index_of x names) ≡ Ok i) (λ e. Refuses (or_unknown n x (index_of x names)) e)

-- the moves ms of line n are written behind old
abbrev pub Moved : ℕ → List (List ℕ) → List ℕ → List (List ℕ) → List ℕ → Result (Unit {0}) Refusal → Type 0
Moved n names old ms new r = MatchResult r (λ _. goals n names old ms ≡ Ok new) (λ e. Refuses (goals n names old ms) e)

-- line n is written behind old
abbrev pub Worded : Kind → ℕ → List (List ℕ) → ℕ → List ℕ → List ℕ → List ℕ → Result ℕ Refusal → Type 0
Worded k n names used line old new r =
    MatchResult r (λ more. (more ≤ 64000) × (word_line n names used old (held k line) ≡ Ok (more, new))) (λ e. Refuses (word_line n names used old (held k line)) e)

abbrev pub Written : Kind → List (List ℕ) → List ℕ → Result (Vec ℕ Global) Refusal → Type 0
Written k names text r =
    MatchResult r (λ v. word_lines k 1 names 0 (length names ∷ []) (lines text) ≡ Ok (vec_items v)) (λ e. Refuses (word_lines k 1 names 0 (length names ∷ []) (lines text)) e)
