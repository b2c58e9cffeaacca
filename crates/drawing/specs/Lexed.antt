-- What the code's tokens mean.
use Rattle.std.specs.Prelude.{◌≡◌, ℕ, Bool, true, false, List, [], None, Some, Ok, Err, Option, Result}
use Rattle.std.specs.Borrow.{Bor}
use Rattle.drawing.specs.declared.refusal.Fault.{Fault}
use Rattle.drawing.specs.declared.token.Spelt.{Spelt}
use Rattle.drawing.specs.declared.token.Spelt.TheVariants.{Bare, Quoted}
use Rattle.drawing.specs.declared.token.Token.{Token}
use Rattle.drawing.specs.declared.token.Token.TheVariants.{Colon, Word}
use Rattle.drawing.specs.declared.token.Tokens.{Tokens}
use Rattle.drawing.specs.Form.{plain, Piece, Next, no_more, next, colon, word, wrong, pieces}

abbrev pub is_quoted : Spelt → Bool
is_quoted (Bare raw) = false
is_quoted (Quoted raw) = true

-- the name that a word means
abbrev pub meant : Spelt → List ℕ
meant (Bare raw) = raw.now
meant (Quoted raw) = plain false raw.now

abbrev pub piece : Token → Piece
piece Colon = colon
piece (Word w) = word (is_quoted w) (meant w)

-- a token, or the fault that stands in its place
abbrev pub shown : Result Token Fault → Piece
shown (Ok t) = piece t
shown (Err f) = wrong f

-- the pieces that are still to come
abbrev pub left : Tokens → List Piece
left t = pieces t.rest.now

-- a word, or the fault that stands in its place
abbrev pub LexedWord : Next → Result (Spelt × Bor (List ℕ)) Fault → Type 0
LexedWord x (Ok p) = x ≡ next (word (is_quoted p.0) (meant p.0)) p.1.now
LexedWord x (Err f) = x ≡ next (wrong f) []

abbrev pub Lexed : Next → Result (Option (Token × Bor (List ℕ))) Fault → Type 0
Lexed x (Ok None) = x ≡ no_more
Lexed x (Ok (Some p)) = x ≡ next (piece p.0) p.1.now
Lexed x (Err f) = x ≡ next (wrong f) []
