-- What a text reads as: its lines, its places in their order, the words.
use Rattle.std.specs.Prelude.{ℕ, suc, ◌+◌, cond, List, [], ◌∷◌, ◌++◌, length, Some, None, Ok, Err, Option, Result, ◌==◌, nat_le, nat_lt}
use Rattle.std.specs.List.{slice_split}
use Rattle.std.specs.Str.{bytes_eq}
use Rattle.drawing.specs.declared.kind.Kind.{Kind}
use Rattle.drawing.specs.declared.refusal.Fault.{Fault}
use Rattle.drawing.specs.Form.{pieces, Line, nothing, place, bad, row}

-- the lines between line feeds
abbrev pub lines : List ℕ → List (List ℕ)
lines text = slice_split (λ b. b == 10) text

-- a carriage return at the end of a line is dropped
abbrev pub bared : List ℕ → List ℕ
bared [] = []
bared (b ∷ []) = cond (b == 13) [] (b ∷ [])
bared (b ∷ c ∷ bs) = b ∷ bared (c ∷ bs)

-- what a line holds, in a drawing of a kind
abbrev pub held : Kind → List ℕ → Line
held k l = row k (pieces (bared l))

-- why a text is refused, and in which line
pub data Why : Type 0 where
  faulty : ℕ → Fault → Why
  twice : ℕ → List ℕ → Why
  unknown : ℕ → List ℕ → Why
  many_places : ℕ → Why
  many_moves : ℕ → Why
  long : Why
  no_places : Why

abbrev pub and_then : {A B : Type 0} → Result A Why → (A → Result B Why) → Result B Why
and_then (Ok x) f = f x
and_then (Err y) f = Err y

-- the index of the first that is x
abbrev pub up : Option ℕ → Option ℕ
up None = None
up (Some i) = Some (suc i)

abbrev pub index_of : List ℕ → List (List ℕ) → Option ℕ
index_of x [] = None
index_of x (y ∷ ys) = cond (bytes_eq y x) (Some 0) (up (index_of x ys))

-- line n is read, and has a place more or none
abbrev pub add_new : ℕ → List (List ℕ) → List ℕ → Option ℕ → Result (List (List ℕ)) Why
add_new n names x (Some i) = Err (twice n x)
add_new n names x None = cond (nat_lt (length names) 16384) (Ok (names ++ (x ∷ []))) (Err (many_places n))

abbrev pub name_line : ℕ → List (List ℕ) → Line → Result (List (List ℕ)) Why
name_line n names nothing = Ok names
name_line n names (bad f) = Err (faulty n f)
name_line n names (place e) = add_new n names e.named (index_of e.named names)

-- the names of the places, in the order of their lines
abbrev pub name_lines : Kind → ℕ → List (List ℕ) → List (List ℕ) → Result (List (List ℕ)) Why
name_lines k n names [] = Ok names
name_lines k n names (l ∷ ls) = and_then (name_line n names (held k l)) (λ more. name_lines k (suc n) more ls)

-- the places that the moves of line n go to
abbrev pub or_unknown : ℕ → List ℕ → Option ℕ → Result ℕ Why
or_unknown n x None = Err (unknown n x)
or_unknown n x (Some i) = Ok i

abbrev pub goals : ℕ → List (List ℕ) → List ℕ → List (List ℕ) → Result (List ℕ) Why
goals n names acc [] = Ok acc
goals n names acc (x ∷ xs) = and_then (or_unknown n x (index_of x names)) (λ i. goals n names (acc ++ (i ∷ [])) xs)

-- the words so far, and how many moves they have
abbrev pub word_line : ℕ → List (List ℕ) → ℕ → List ℕ → Line → Result (ℕ × List ℕ) Why
word_line n names used acc nothing = Ok (used, acc)
word_line n names used acc (bad f) = Err (faulty n f)
word_line n names used acc (place e) =
    cond (nat_le (used + length e.goes) 64000)
    (and_then (goals n names (acc ++ (e.side ∷ e.weighs ∷ length e.goes ∷ [])) e.goes) (λ more. Ok (used + length e.goes, more)))
    (Err (many_moves n))

abbrev pub word_lines : Kind → ℕ → List (List ℕ) → ℕ → List ℕ → List (List ℕ) → Result (List ℕ) Why
word_lines k n names used acc [] = Ok acc
word_lines k n names used acc (l ∷ ls) = and_then (word_line n names used acc (held k l)) (λ p. word_lines k (suc n) names p.0 p.1 ls)

-- the names and the words, or why not
abbrev pub some_places : List (List ℕ) → Result (List (List ℕ)) Why
some_places [] = Err no_places
some_places (x ∷ xs) = Ok (x ∷ xs)

abbrev pub reading : Kind → List ℕ → Result (List (List ℕ) × List ℕ) Why
reading k text =
    cond (nat_lt 1572864 (length text)) (Err long)
    (and_then (and_then (name_lines k 1 [] (lines text)) some_places)
    (λ names. and_then (word_lines k 1 names 0 (length names ∷ []) (lines text)) (λ words. Ok (names, words))))
