-- What a line that holds a place says: a side, a weight, a move at least but in a game with ends.
use Rattle.std.proofs.Common.{◌≡◌, ℕ, ◌+◌, ◌-◌, ◌*◌, ◌<◌, Bool, true, false, cond, ltb, List, [], ◌∷◌, length, Some, None, Ok, Err, Option, Result, refl, ap, subst, arith}
use Rattle.std.specs.Char.{is_ascii_digit}
use Rattle.std.specs.Str.{bytes_eq}
use Rattle.std.proofs.lemmas.Bool.{ltb-true}
use Rattle.drawing.specs.declared.kind.Kind.{Kind}
use Rattle.drawing.specs.declared.kind.Kind.TheVariants.{Endless, WithEnds}
use Rattle.drawing.specs.declared.refusal.Fault.{Fault}
use Rattle.drawing.specs.declared.refusal.Fault.TheVariants.{Side, Weight}
use Rattle.drawing.specs.Form.{Piece, colon, word, wrong, side_of, digits, weight_of, or_fault, number_first, colon_first, names_of, some_names, Entry, place, bad, row_moves, row_colon, row_weight, row_side, row}

pub record Fine (kind : Kind) (e : Entry) : Type 0 where
  pub sided : e.side < 2
  pub light : e.weighs < 256
  pub some : kind ≡ Endless → 0 < length e.goes

not_both : {n : ℕ} → None ≡ Some n → ⊥
not_both e = let z : ◌≡◌ {A = ℕ} 0 1 = cc in omega arith

not_ok : {A B : Type 0} {x : A} {y : B} → Err y ≡ Ok x → ⊥
not_ok e = let z : ◌≡◌ {A = ℕ} 0 1 = cc in omega arith

not_bad : {f : Fault} {e : Entry} → bad f ≡ place e → ⊥
not_bad q = let z : ◌≡◌ {A = ℕ} 0 1 = cc in omega arith

side_low : (q : Bool) (w : List ℕ) (n : ℕ) → side_of q w ≡ Some n → n < 2
side_low q w n e = at q (bytes_eq w (48 ∷ [])) (bytes_eq w (49 ∷ [])) e
  where
    at : (a b c : Bool) → cond a None (cond b (Some 0) (cond c (Some 1) None)) ≡ Some n → n < 2
    at true b c h = absurd (not_both h)
    at false true c h = let z : 0 ≡ n = cc in omega arith
    at false false true h = let z : 1 ≡ n = cc in omega arith
    at false false false h = absurd (not_both h)

digits_low : (w : List ℕ) (m n : ℕ) → m < 256 → digits m w ≡ Some n → n < 256
digits_low [] m n l e = let z : m ≡ n = cc in omega arith
digits_low (b ∷ bs) m n l e = at (λ k q. digits_low bs (10 * m + (b - 48)) n k q) (is_ascii_digit b) (ltb (10 * m + (b - 48)) 256) refl e
  where
    at : (10 * m + (b - 48) < 256 → digits (10 * m + (b - 48)) bs ≡ Some n → n < 256) → (s t : Bool) → ltb (10 * m + (b - 48)) 256 ≡ t → cond s (cond t (digits (10 * m + (b - 48)) bs) None) None ≡ Some n → n < 256
    at rec true true q h = rec (ltb-true _ _ q) h
    at rec true false q h = absurd (not_both h)
    at rec false t q h = absurd (not_both h)

weight_low : (q : Bool) (w : List ℕ) (n : ℕ) → weight_of q w ≡ Some n → n < 256
weight_low true w n e = absurd (not_both e)
weight_low false w n e = digits_low w 0 n (omega arith) e

number_low : (read : Bool → List ℕ → Option ℕ) (k : ℕ) → ((q : Bool) (w : List ℕ) (n : ℕ) → read q w ≡ Some n → n < k) → (f : Fault) (ps : List Piece) (n : ℕ) (rest : List Piece) → number_first read f ps ≡ Ok (n, rest) → n < k
number_low read k low f [] n rest e = absurd (not_ok e)
number_low read k low f (colon ∷ ps) n rest e = absurd (not_ok e)
number_low read k low f (wrong g ∷ ps) n rest e = absurd (not_ok e)
number_low read k low f (word q w ∷ ps) n rest e = at (read q w) refl e
  where
    at : (o : Option ℕ) → read q w ≡ o → or_fault o f ps ≡ Ok (n, rest) → n < k
    at None h r = absurd (not_ok r)
    at (Some m) h r = let both : ◌≡◌ {A = ℕ × List Piece} (m, ps) (n, rest) = cc in let z : m ≡ n = ap (λ p. p.0) both in subst (λ i. i < k) z (low q w m h)

some_some : (kind : Kind) (x : Result (List (List ℕ)) Fault) (ms : List (List ℕ)) → some_names kind x ≡ Ok ms → kind ≡ Endless → 0 < length ms
some_some kind (Err f) ms e is = absurd (not_ok e)
some_some Endless (Ok []) ms e is = absurd (not_ok e)
some_some WithEnds (Ok []) ms e is = absurd (let z : ◌≡◌ {A = ℕ} 0 1 = cc in omega arith)
some_some kind (Ok (w ∷ ws)) ms e is = let z : w ∷ ws ≡ ms = cc in subst (λ l. 0 < length l) z (omega arith)

entry_of : {e f : Entry} → place e ≡ place f → e ≡ f
entry_of q = cc

-- what a row says is a place
pub row_fine : (kind : Kind) (ps : List Piece) (e : Entry) → row kind ps ≡ place e → Fine kind e
row_fine kind [] e h = absurd (let z : ◌≡◌ {A = ℕ} 0 1 = cc in omega arith)
row_fine kind (colon ∷ ps) e h = absurd (not_bad h)
row_fine kind (wrong f ∷ ps) e h = absurd (not_bad h)
row_fine kind (word q x ∷ ps) e h = sided (number_first side_of Side ps) refl h
  where
    moved : (s w : ℕ) → s < 2 → w < 256 → (m : Result (List (List ℕ)) Fault) → ((ms : List (List ℕ)) → m ≡ Ok ms → kind ≡ Endless → 0 < length ms) → row_moves x s w m ≡ place e → Fine kind e
    moved s w a b (Err f) o r = absurd (not_bad r)
    moved s w a b (Ok ms) o r = subst (Fine kind) (entry_of r) (record { sided = a; light = b; some = o ms refl })

    coloned : (s w : ℕ) → s < 2 → w < 256 → (m : Result (List Piece) Fault) → row_colon kind x s w m ≡ place e → Fine kind e
    coloned s w a b (Err f) r = absurd (not_bad r)
    coloned s w a b (Ok rest) r = moved s w a b (some_names kind (names_of rest)) (λ ms q. some_some kind (names_of rest) ms q) r

    weighed : (s : ℕ) → s < 2 → (rest : List Piece) (m : Result (ℕ × List Piece) Fault) → number_first weight_of Weight rest ≡ m → row_weight kind x s m ≡ place e → Fine kind e
    weighed s a rest (Err f) q r = absurd (not_bad r)
    weighed s a rest (Ok p) q r = coloned s p.0 a (number_low weight_of 256 weight_low Weight rest p.0 p.1 q) (colon_first p.1) r

    sided : (m : Result (ℕ × List Piece) Fault) → number_first side_of Side ps ≡ m → row_side kind x m ≡ place e → Fine kind e
    sided (Err f) q r = absurd (not_bad r)
    sided (Ok p) q r = weighed p.0 (number_low side_of 2 side_low Side ps p.0 p.1 q) p.1 (number_first weight_of Weight p.1) refl r
