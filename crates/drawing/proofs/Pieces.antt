-- The pieces of a line come one after the other.
use Rattle.std.proofs.Common.{◌≡◌, ℕ, zero, suc, ◌+◌, ◌-◌, ◌<◌, ◌≤◌, Bool, true, false, cond, eqb, ltb, List, [], ◌∷◌, length, take, drop, Some, None, Option, refl, ap, ◌∙◌, subst, arith, length-drop}
use Rattle.std.specs.List.{prefix_len, position_or_len}
use Rattle.std.proofs.lemmas.Bool.{eqb-false}
use Rattle.drawing.specs.declared.refusal.Fault.{Fault}
use Rattle.drawing.specs.declared.refusal.Fault.TheVariants.{LongName, EmptyName, Dash, Quote, Control}
use Rattle.drawing.specs.Form.{stops, blank, closing, plain, Piece, Next, no_more, next, colon, word, wrong, fault, apart, dash, bare, control_within, quoted_at, quoted, next_dark, next_piece, onward, pieces_in, pieces}

-- less than n bytes are left
pub data Short (n : ℕ) : Next → Type 0 where
  over : Short n no_more
  less : {p : Piece} {rest : List ℕ} → length rest < n → Short n (next p rest)

module _ (n : ℕ) (h : 0 < n) (p : Piece) (rest : List ℕ) (l : length rest < n) where
  short_bare_ways : (a k d m : Bool) → Short n (cond a (cond k (fault Control) (cond d (fault Dash) (cond m (fault LongName) (next p rest)))) (fault Quote))
  short_bare_ways false k d m = less h
  short_bare_ways true true d m = less h
  short_bare_ways true false true m = less h
  short_bare_ways true false false true = less h
  short_bare_ways true false false false = less l

  short_quoted_ways : (a k z m : Bool) → Short n (cond a (cond k (fault Control) (cond z (fault EmptyName) (cond m (fault LongName) (next p rest)))) (fault Quote))
  short_quoted_ways false k z m = less h
  short_quoted_ways true true z m = less h
  short_quoted_ways true false true m = less h
  short_quoted_ways true false false true = less h
  short_quoted_ways true false false false = less l

take_some : (k : ℕ) (bs : List ℕ) → (length (take k bs) ≡ 0 → ⊥) → 0 < length bs → length bs - k < length bs
take_some zero bs some h = absurd (some refl)
take_some (suc k) bs some h = omega arith

short_bare : (bs : List ℕ) → 0 < length bs → Short (length bs) (bare bs)
short_bare bs h = at (take (position_or_len stops bs) bs) refl (eqb (length (take (position_or_len stops bs) bs)) 0) refl
  where
    at : (w : List ℕ) → w ≡ take (position_or_len stops bs) bs → (t : Bool) → eqb (length w) 0 ≡ t → Short (length bs) (cond t (fault Quote) (cond (apart (drop (position_or_len stops bs) bs)) (cond (control_within false w) (fault Control) (cond (dash w) (fault Dash) (cond (ltb 64 (length w)) (fault LongName) (next (word false w) (drop (position_or_len stops bs) bs))))) (fault Quote)))
    at w q true e = less h
    at w q false e =
        let left : length (drop (position_or_len stops bs) bs) < length bs = rw (length-drop (position_or_len stops bs) bs) (take_some (position_or_len stops bs) bs (λ z. eqb-false _ 0 e (ap length q ∙ z)) h) in
        short_bare_ways (length bs) h (word false w) (drop (position_or_len stops bs) bs) left (apart (drop (position_or_len stops bs) bs)) (control_within false w) (dash w) (ltb 64 (length w))

short_quoted_at : (bs : List ℕ) (o : Option ℕ) → Short (suc (length bs)) (quoted_at bs o)
short_quoted_at bs None = less (omega arith)
short_quoted_at bs (Some n) =
    let more : length (drop (n + 1) bs) < suc (length bs) = rw (length-drop (n + 1) bs) (omega arith) in
    short_quoted_ways (suc (length bs)) (omega arith) (word true (plain false (take n bs))) (drop (n + 1) bs) more (apart (drop (n + 1) bs)) (control_within false (take n bs)) (eqb (length (plain false (take n bs))) 0) (ltb 64 (length (plain false (take n bs))))

short_dark_ways : (n : ℕ) (x y z : Next) → Short n x → Short n y → Short n z → (a b c : Bool) → Short n (cond a no_more (cond b x (cond c y z)))
short_dark_ways n x y z f g h true b c = over
short_dark_ways n x y z f g h false true c = f
short_dark_ways n x y z f g h false false true = g
short_dark_ways n x y z f g h false false false = h

short_dark : (bs : List ℕ) → Short (length bs) (next_dark bs)
short_dark [] = over
short_dark (b ∷ bs) = short_dark_ways (suc (length bs)) (next colon bs) (quoted bs) (bare (b ∷ bs)) (less (omega arith)) (short_quoted_at bs (closing false bs)) (short_bare (b ∷ bs) (omega arith)) (eqb b 35) (eqb b 58) (eqb b 34)

short_more : (m n : ℕ) (x : Next) → m ≤ n → Short m x → Short n x
short_more m n no_more h s = over
short_more m n (next p rest) h (less l) = less (omega arith)

-- each piece has a byte at least
pub short_next : (bs : List ℕ) → Short (length bs) (next_piece bs)
short_next bs = short_more (length (drop (prefix_len blank bs) bs)) (length bs) (next_piece bs) (rw (length-drop (prefix_len blank bs) bs) (omega arith)) (short_dark (drop (prefix_len blank bs) bs))

short_length : {n : ℕ} {p : Piece} {rest : List ℕ} → Short n (next p rest) → length rest < n
short_length (less l) = l

pub shorter : (bs : List ℕ) (p : Piece) (rest : List ℕ) → next_piece bs ≡ next p rest → length rest < length bs
shorter bs p rest e = short_length (subst (Short (length bs)) e (short_next bs))

enough : (n m : ℕ) (bs : List ℕ) → length bs ≤ n → length bs ≤ m → pieces_in n bs ≡ pieces_in m bs
unfolding pieces_in
enough zero zero bs h k = refl
enough zero (suc m) [] h k = refl
enough zero (suc m) (b ∷ bs) h k = absurd (omega arith)
enough (suc n) zero [] h k = refl
enough (suc n) zero (b ∷ bs) h k = absurd (omega arith)
enough (suc n) (suc m) bs h k = at (next_piece bs) (short_next bs) (λ rest l. enough n m rest (omega arith) (omega arith))
  where
    at : (x : Next) → Short (length bs) x → ((rest : List ℕ) → length rest < length bs → pieces_in n rest ≡ pieces_in m rest) → onward x (λ rest. pieces_in n rest) ≡ onward x (λ rest. pieces_in m rest)
    at no_more s f = refl
    at (next p rest) s f = ap (λ ps. p ∷ ps) (f rest (short_length s))

pub pieces_none : (bs : List ℕ) → next_piece bs ≡ no_more → pieces bs ≡ []
unfolding pieces pieces_in
pieces_none [] e = refl
pieces_none (b ∷ bs) e = ap (λ x. onward x (λ rest. pieces_in (length bs) rest)) e

pub pieces_next : (bs : List ℕ) (p : Piece) (rest : List ℕ) → next_piece bs ≡ next p rest → pieces bs ≡ p ∷ pieces rest
unfolding pieces pieces_in
pieces_next [] p rest e = absurd (let z : ◌≡◌ {A = ℕ} 0 1 = cc in omega arith)
pieces_next (b ∷ bs) p rest e = ap (λ x. onward x (λ rest. pieces_in (length bs) rest)) e ∙ ap (λ ps. p ∷ ps) (enough (length bs) (length rest) rest (omega (arith, shorter (b ∷ bs) p rest e)) (omega arith))

pub pieces_wrong : (bs : List ℕ) (f : Fault) → next_piece bs ≡ next (wrong f) [] → pieces bs ≡ wrong f ∷ []
pieces_wrong bs f e = pieces_next bs (wrong f) [] e ∙ ap (λ ps. wrong f ∷ ps) (pieces_none [] refl)

pieces_in_few : (n : ℕ) (bs : List ℕ) → length (pieces_in n bs) ≤ n
unfolding pieces_in
pieces_in_few zero bs = omega arith
pieces_in_few (suc n) bs = at (next_piece bs) (λ rest. pieces_in_few n rest)
  where
    at : (x : Next) → ((rest : List ℕ) → length (pieces_in n rest) ≤ n) → length (onward x (λ rest. pieces_in n rest)) ≤ suc n
    at no_more f = omega arith
    at (next p rest) f = let l = f rest in omega arith

pub pieces_few : (bs : List ℕ) → length (pieces bs) ≤ length bs
unfolding pieces
pieces_few bs = pieces_in_few (length bs) bs
