-- The form of a drawing: the lines of a text, the tokens of a line, the row that they make.
use Rattle.std.specs.Prelude.{ℕ, zero, suc, ◌+◌, ◌-◌, ◌*◌, Bool, true, false, cond, not, ◌&&◌, ◌||◌, List, [], ◌∷◌, length, take, drop, Some, None, Ok, Err, Option, Result, ◌==◌, nat_lt}
use Rattle.std.specs.Char.{is_ascii_digit}
use Rattle.std.specs.List.{prefix_len, position_or_len}
use Rattle.std.specs.Str.{bytes_eq}
use Rattle.drawing.specs.declared.kind.Kind.{Kind}
use Rattle.drawing.specs.declared.kind.Kind.TheVariants.{Endless, WithEnds}
use Rattle.drawing.specs.declared.refusal.Fault.{Fault}
use Rattle.drawing.specs.declared.refusal.Fault.TheVariants.{Form, Side, Weight, NoMoves, LongName, EmptyName, Dash, Quote, Control}

-- blanks and tabs separate words
abbrev pub blank : ℕ → Bool
blank b = b == 32 || b == 9

-- what ends a word: a blank, a tab, `:` or `#`
abbrev pub ends : ℕ → Bool
ends b = blank b || (b == 58 || b == 35)

-- a bare word stops there, and at a quote and a backslash
abbrev pub stops : ℕ → Bool
stops b = ends b || (b == 34 || b == 92)

-- a control character: below 32, 127, or the bytes 194 and one below 160; wide tells that 194 came before
abbrev pub control : Bool → ℕ → Bool
control wide b = (nat_lt b 32 || b == 127) || (wide && nat_lt b 160)

abbrev pub control_within : Bool → List ℕ → Bool
control_within wide [] = false
control_within wide (b ∷ bs) = control wide b || control_within (b == 194) bs

-- a backslash takes the next byte with it; escaped tells that the byte is so taken
abbrev pub escapes : Bool → ℕ → Bool
escapes escaped b = not escaped && b == 92

-- a backslash takes a quote or a backslash, and nothing else
abbrev pub astray : Bool → ℕ → Bool
astray escaped b = escaped && (not (b == 34) && not (b == 92))

abbrev pub closes : Bool → ℕ → Bool
closes escaped b = not escaped && b == 34

-- how many bytes stand before the closing quote
abbrev pub also : Option ℕ → Option ℕ
also None = None
also (Some n) = Some (suc n)

abbrev pub closing : Bool → List ℕ → Option ℕ
closing escaped [] = None
closing escaped (b ∷ bs) =
    cond (astray escaped b) None (cond (closes escaped b) (Some 0) (also (closing (escapes escaped b) bs)))

-- the bytes without the backslashes that take another
abbrev pub plain : Bool → List ℕ → List ℕ
plain escaped [] = []
plain escaped (b ∷ bs) = cond (escapes escaped b) (plain true bs) (b ∷ plain false bs)

-- a piece of a line: a colon, a word with the name that it means, or a fault
pub data Piece : Type 0 where
  colon : Piece
  word : Bool → List ℕ → Piece
  wrong : Fault → Piece

-- the next piece, and what is left of the line
pub data Next : Type 0 where
  no_more : Next
  next : Piece → List ℕ → Next

-- a fault ends the line
abbrev pub fault : Fault → Next
fault f = next (wrong f) []

-- a word ends at the end of the line, or before what ends a word
abbrev pub apart : List ℕ → Bool
apart [] = true
apart (b ∷ bs) = ends b

abbrev pub dash : List ℕ → Bool
dash w = bytes_eq w (45 ∷ [])

-- a bare word: no quote, backslash or control character, not `-`, at most 64 bytes
abbrev pub bare_word : List ℕ → List ℕ → Next
bare_word w rest =
    cond (length w == 0) (fault Quote) (cond (apart rest) (cond (control_within false w) (fault Control) (cond (dash w) (fault Dash) (cond (nat_lt 64 (length w)) (fault LongName) (next (word false w) rest)))) (fault Quote))

abbrev pub bare : List ℕ → Next
bare bs = bare_word (take (position_or_len stops bs) bs) (drop (position_or_len stops bs) bs)

-- a word in quotes: no control character, 1 to 64 bytes
abbrev pub sized : List ℕ → List ℕ → Next
sized w rest = cond (length w == 0) (fault EmptyName) (cond (nat_lt 64 (length w)) (fault LongName) (next (word true w) rest))

abbrev pub quoted_word : List ℕ → List ℕ → Next
quoted_word raw rest = cond (apart rest) (cond (control_within false raw) (fault Control) (sized (plain false raw) rest)) (fault Quote)

abbrev pub quoted_at : List ℕ → Option ℕ → Next
quoted_at bs None = fault Quote
quoted_at bs (Some n) = quoted_word (take n bs) (drop (n + 1) bs)

abbrev pub quoted : List ℕ → Next
quoted bs = quoted_at bs (closing false bs)

-- the next piece of a line that has no blank in front
abbrev pub next_dark : List ℕ → Next
next_dark [] = no_more
next_dark (b ∷ bs) = cond (b == 35) no_more (cond (b == 58) (next colon bs) (cond (b == 34) (quoted bs) (bare (b ∷ bs))))

abbrev pub next_piece : List ℕ → Next
next_piece bs = next_dark (drop (prefix_len blank bs) bs)

-- the pieces of a line, at most n
abbrev pub onward : Next → (List ℕ → List Piece) → List Piece
onward no_more f = []
onward (next p rest) f = p ∷ f rest

unfoldable pub pieces_in : ℕ → List ℕ → List Piece
pieces_in zero bs = []
pieces_in (suc n) bs = onward (next_piece bs) (λ rest. pieces_in n rest)

-- each piece has a byte at least
unfoldable pub pieces : List ℕ → List Piece
pieces bs = pieces_in (length bs) bs

-- what a line that holds a place says
pub record Entry : Type 0 where
  pub named : List ℕ
  pub side : ℕ
  pub weighs : ℕ
  pub goes : List (List ℕ)

pub data Line : Type 0 where
  nothing : Line
  place : Entry → Line
  bad : Fault → Line

-- a side is 0 or 1, and a weight a number below 256 in digits; neither stands in quotes
abbrev pub side_of : Bool → List ℕ → Option ℕ
side_of quoted w = cond quoted None (cond (bytes_eq w (48 ∷ [])) (Some 0) (cond (bytes_eq w (49 ∷ [])) (Some 1) None))

abbrev pub digits : ℕ → List ℕ → Option ℕ
digits n [] = Some n
digits n (b ∷ bs) = cond (is_ascii_digit b) (cond (nat_lt (10 * n + (b - 48)) 256) (digits (10 * n + (b - 48)) bs) None) None

abbrev pub weight_of : Bool → List ℕ → Option ℕ
weight_of quoted w = cond quoted None (digits 0 w)

abbrev pub or_fault : Option ℕ → Fault → List Piece → Result (ℕ × List Piece) Fault
or_fault None f ps = Err f
or_fault (Some n) f ps = Ok (n, ps)

-- a word that reads as a number, and what follows it
abbrev pub number_first : (Bool → List ℕ → Option ℕ) → Fault → List Piece → Result (ℕ × List Piece) Fault
number_first read f [] = Err Form
number_first read f (colon ∷ ps) = Err Form
number_first read f (wrong e ∷ ps) = Err e
number_first read f (word quoted w ∷ ps) = or_fault (read quoted w) f ps

abbrev pub colon_first : List Piece → Result (List Piece) Fault
colon_first [] = Err Form
colon_first (colon ∷ ps) = Ok ps
colon_first (wrong e ∷ ps) = Err e
colon_first (word quoted w ∷ ps) = Err Form

-- the names up to the end of the line
abbrev pub with_name : List ℕ → Result (List (List ℕ)) Fault → Result (List (List ℕ)) Fault
with_name w (Ok ws) = Ok (w ∷ ws)
with_name w (Err e) = Err e

abbrev pub names_of : List Piece → Result (List (List ℕ)) Fault
names_of [] = Ok []
names_of (colon ∷ ps) = Err Form
names_of (wrong e ∷ ps) = Err e
names_of (word quoted w ∷ ps) = with_name w (names_of ps)

-- a place has a move at least, but in a game with ends
abbrev pub no_names : Kind → Result (List (List ℕ)) Fault
no_names Endless = Err NoMoves
no_names WithEnds = Ok []

abbrev pub some_names : Kind → Result (List (List ℕ)) Fault → Result (List (List ℕ)) Fault
some_names k (Err e) = Err e
some_names k (Ok []) = no_names k
some_names k (Ok (w ∷ ws)) = Ok (w ∷ ws)

-- NAME SIDE WEIGHT: NAME NAME ..
abbrev pub row_moves : List ℕ → ℕ → ℕ → Result (List (List ℕ)) Fault → Line
row_moves x s w (Err e) = bad e
row_moves x s w (Ok ms) = place (record { named = x; side = s; weighs = w; goes = ms })

abbrev pub row_colon : Kind → List ℕ → ℕ → ℕ → Result (List Piece) Fault → Line
row_colon k x s w (Err e) = bad e
row_colon k x s w (Ok ps) = row_moves x s w (some_names k (names_of ps))

abbrev pub row_weight : Kind → List ℕ → ℕ → Result (ℕ × List Piece) Fault → Line
row_weight k x s (Err e) = bad e
row_weight k x s (Ok p) = row_colon k x s p.0 (colon_first p.1)

abbrev pub row_side : Kind → List ℕ → Result (ℕ × List Piece) Fault → Line
row_side k x (Err e) = bad e
row_side k x (Ok p) = row_weight k x p.0 (number_first weight_of Weight p.1)

abbrev pub row : Kind → List Piece → Line
row k [] = nothing
row k (colon ∷ ps) = bad Form
row k (wrong e ∷ ps) = bad e
row k (word quoted w ∷ ps) = row_side k w (number_first side_of Side ps)
