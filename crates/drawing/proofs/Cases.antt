-- Small drawings, as they read.
use Rattle.std.proofs.Common.{◌≡◌, ℕ, true, false, List, [], ◌∷◌, Ok, Err, codes, Result, refl}
use Rattle.drawing.specs.declared.kind.Kind.TheVariants.{Endless, WithEnds}
use Rattle.drawing.specs.declared.refusal.Fault.TheVariants.{Weight, NoMoves, Quote}
use Rattle.drawing.specs.Form.{pieces, pieces_in, colon, word, wrong}
use Rattle.drawing.specs.Reading.{reading, Why, faulty, unknown, no_places}

abbrev ReadsAs : List ℕ → Result (List (List ℕ) × List ℕ) Why → Type 0
ReadsAs text answer = reading Endless text ≡ answer

tokens : pieces (codes "a 0 12:b#c") ≡ word false (codes "a") ∷ word false (codes "0") ∷ word false (codes "12") ∷ colon ∷ word false (codes "b") ∷ []
unfolding pieces pieces_in
tokens = refl

-- a quoted name, with both escapes: "a \" \\"
in_quotes : pieces (34 ∷ 97 ∷ 32 ∷ 92 ∷ 34 ∷ 32 ∷ 92 ∷ 92 ∷ 34 ∷ []) ≡ word true (97 ∷ 32 ∷ 34 ∷ 32 ∷ 92 ∷ []) ∷ []
unfolding pieces pieces_in
in_quotes = refl

not_closed : pieces (34 ∷ 97 ∷ []) ≡ wrong Quote ∷ []
unfolding pieces pieces_in
not_closed = refl

-- two places, CR LF, a move to itself, a place named before its line
two : ReadsAs (97 ∷ 32 ∷ 48 ∷ 32 ∷ 51 ∷ 58 ∷ 98 ∷ 32 ∷ 97 ∷ 13 ∷ 10 ∷ 98 ∷ 32 ∷ 49 ∷ 32 ∷ 50 ∷ 53 ∷ 53 ∷ 58 ∷ 97 ∷ []) (Ok ((97 ∷ []) ∷ (98 ∷ []) ∷ [], 2 ∷ 0 ∷ 3 ∷ 2 ∷ 1 ∷ 0 ∷ 1 ∷ 255 ∷ 1 ∷ 0 ∷ []))
unfolding pieces pieces_in
two = refl

strange : ReadsAs (97 ∷ 32 ∷ 48 ∷ 32 ∷ 51 ∷ 58 ∷ 98 ∷ []) (Err (unknown 1 (98 ∷ [])))
unfolding pieces pieces_in
strange = refl

too_heavy : ReadsAs (10 ∷ 97 ∷ 32 ∷ 48 ∷ 32 ∷ 50 ∷ 53 ∷ 54 ∷ 58 ∷ 97 ∷ []) (Err (faulty 2 Weight))
unfolding pieces pieces_in
too_heavy = refl

none : ReadsAs (35 ∷ 97 ∷ 10 ∷ []) (Err no_places)
unfolding pieces pieces_in
none = refl

-- a place without moves: a 0 1:
no_moves : ReadsAs (97 ∷ 32 ∷ 48 ∷ 32 ∷ 49 ∷ 58 ∷ []) (Err (faulty 1 NoMoves))
unfolding pieces pieces_in
no_moves = refl

with_end : reading WithEnds (97 ∷ 32 ∷ 48 ∷ 32 ∷ 49 ∷ 58 ∷ []) ≡ Ok ((97 ∷ []) ∷ [], 1 ∷ 0 ∷ 1 ∷ 0 ∷ [])
unfolding pieces pieces_in
with_end = refl
