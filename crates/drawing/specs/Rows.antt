-- What the code reads of a line.
use Rattle.std.specs.Prelude.{◌≡◌, ℕ, Bool, List, ◌∷◌, length, Some, None, Ok, Err, Option, Result}
use Rattle.drawing.specs.declared.kind.Kind.{Kind}
use Rattle.drawing.specs.declared.refusal.Fault.{Fault}
use Rattle.drawing.specs.declared.token.Spelt.{Spelt}
use Rattle.drawing.specs.declared.row.Row.{Row}
use Rattle.endless.specs.Sides.{number}
use Rattle.drawing.specs.Form.{Piece, word, number_first, colon_first, names_of, nothing, place, bad, row}
use Rattle.drawing.specs.Lexed.{is_quoted, meant, left}

-- the next piece is a word, and others are left
abbrev pub Worded : List Piece → Result Spelt Fault → List Piece → Type 0
Worded old (Ok w) new = old ≡ word (is_quoted w) (meant w) ∷ new
Worded old (Err e) new = (read : Bool → List ℕ → Option ℕ) (f : Fault) → number_first read f old ≡ Err e

-- the next piece is a colon
abbrev pub Followed : List Piece → Result (Unit {0}) Fault → List Piece → Type 0
Followed old (Ok u) new = colon_first old ≡ Ok new
Followed old (Err e) new = colon_first old ≡ Err e

abbrev pub lengths : Result (List (List ℕ)) Fault → Result ℕ Fault
lengths (Ok ws) = Ok (length ws)
lengths (Err e) = Err e

-- the row is of the line, and its moves are still to be read
pub record Rowed (k : Kind) (ps : List Piece) (r : Row) : Type 0 where
  pub goes : List (List ℕ)
  pub unread : names_of (left r.moves) ≡ Ok goes
  pub many : length goes ≡ r.count
  pub is : row k ps ≡ place (record { named = meant r.name; side = number r.side; weighs = r.weight; goes = goes })

abbrev pub ReadRow : Kind → List Piece → Result (Option Row) Fault → Type 0
ReadRow k ps (Ok None) = row k ps ≡ nothing
ReadRow k ps (Ok (Some r)) = Rowed k ps r
ReadRow k ps (Err e) = row k ps ≡ bad e
