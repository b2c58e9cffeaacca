-- Numbers that are written are read back.
use Rattle.std.proofs.Common.{◌≡◌, ℕ, zero, suc, ◌+◌, ◌-◌, ◌*◌, ◌/◌, ◌%◌, ◌<◌, ◌≤◌, Bool, true, false, cond, not, ltb, List, [], ◌∷◌, ◌++◌, length, Some, None, refl, ap, ◌∙◌, arith}
use Rattle.std.specs.Char.{is_ascii_digit}
use Rattle.std.specs.List.{position_or_len}
use Rattle.std.specs.Str.Parse.{AllDigits}
use Rattle.std.specs.Fmt.{decimal}
use Rattle.std.proofs.lemmas.Fmt.{decimal_is_IsNumeral, decimal_digit, decimal_by_steps, length-decimal-le}
use Rattle.std.proofs.lemmas.Str.Parse.{digit_from_value}
use Rattle.std.proofs.lemmas.Bool.{cond-true, ne_eqb, le-leb, le-ltb, lt-ltb, and_from, and_left, or_from}
use Rattle.drawing.specs.Form.{stops, control_within, apart, dash, word, next, next_piece, side_of, digits, weight_of}
use Rattle.drawing.specs.Spelling.{IsName}
use Rattle.drawing.proofs.RoundTrip.{plain_back}

-- digits
abbrev pub Figures : List ℕ → Type 0
Figures [] = Unit {0}
Figures (b ∷ bs) = (48 ≤ b) × (b ≤ 57) × Figures bs

from_all : (ds : List ℕ) → AllDigits 10 ds → Figures ds
from_all [] d = tt
from_all (c ∷ cs) d = let r = digit_from_value c d.0 in (omega (arith, r), omega (arith, r), from_all cs d.1)

pub figures : (n : ℕ) → n < 256 → Figures (decimal n)
figures n h = from_all (decimal n) (decimal_is_IsNumeral n (omega arith)).0.1

figures_clear : (ds : List ℕ) → Figures ds → control_within false ds ≡ false
figures_clear [] f = refl
figures_clear (b ∷ bs) f =
    or_from _ _ (or_from _ _ (or_from _ _ (le-ltb b 32 (omega (arith, f.0))) (ne_eqb b 127 (λ e. omega (arith, e, f.1)))) refl)
    (ap (λ t. control_within t bs) (ne_eqb b 194 (λ e. omega (arith, e, f.1))) ∙ figures_clear bs f.2)

figures_plain : (ds : List ℕ) → Figures ds → position_or_len stops ds ≡ length ds
figures_plain [] f = refl
figures_plain (b ∷ bs) f =
    let blank = or_from _ _ (ne_eqb b 32 (λ e. omega (arith, e, f.0))) (ne_eqb b 9 (λ e. omega (arith, e, f.0))) in
    let ends = or_from _ _ blank (or_from _ _ (ne_eqb b 58 (λ e. omega (arith, e, f.1))) (ne_eqb b 35 (λ e. omega (arith, e, f.0)))) in
    let stops = or_from _ _ ends (or_from _ _ (ne_eqb b 34 (λ e. omega (arith, e, f.0))) (ne_eqb b 92 (λ e. omega (arith, e, f.1)))) in
    cond-true _ _ _ (ap not stops) ∙ omega (arith, figures_plain bs f.2)

figures_named : (ds : List ℕ) → Figures ds → dash ds ≡ false
figures_named [] f = refl
figures_named (b ∷ bs) f = and_left _ _ (ne_eqb b 45 (λ e. omega (arith, e, f.0)))

-- the weight
digits_push : (ds : List ℕ) (m v d : ℕ) → digits m ds ≡ Some v → digits m (ds ++ (d ∷ [])) ≡ digits v (d ∷ [])
digits_push [] m v d e = let z : m ≡ v = cc in ap (λ n. digits n (d ∷ [])) z
digits_push (b ∷ bs) m v d e = at (λ h. digits_push bs (10 * m + (b - 48)) v d h) (is_ascii_digit b) (ltb (10 * m + (b - 48)) 256) e
  where
    at : (digits (10 * m + (b - 48)) bs ≡ Some v → digits (10 * m + (b - 48)) (bs ++ (d ∷ [])) ≡ digits v (d ∷ [])) → (s t : Bool) → cond s (cond t (digits (10 * m + (b - 48)) bs) None) None ≡ Some v → cond s (cond t (digits (10 * m + (b - 48)) (bs ++ (d ∷ []))) None) None ≡ digits v (d ∷ [])
    at rec true true h = rec h
    at rec true false h = absurd (let z : ◌≡◌ {A = ℕ} 0 1 = cc in omega arith)
    at rec false t h = absurd (let z : ◌≡◌ {A = ℕ} 0 1 = cc in omega arith)

digit_read : (v d : ℕ) → d < 10 → 10 * v + d < 256 → digits v ((48 + d) ∷ []) ≡ Some (10 * v + d)
digit_read v d h l =
    let same : 10 * v + (48 + d - 48) ≡ 10 * v + d = omega arith in
    cond-true _ _ _ (and_from _ _ (le-leb 48 (48 + d) (omega arith)) (le-leb (48 + d) 57 (omega arith)))
    ∙ cond-true _ _ _ (lt-ltb (10 * v + (48 + d - 48)) 256 (omega arith))
    ∙ ap Some same

weight_back : (w : ℕ) → w < 256 → digits 0 (decimal w) ≡ Some w
weight_back w h = decimal_by_steps (λ n ds. n < 256 → digits 0 ds ≡ Some n) one more w (omega arith) h
  where
    one : (n : ℕ) → n < 10 → n < 256 → digits 0 ((48 + n) ∷ []) ≡ Some n
    one n l k = let same : 10 * 0 + n ≡ n = omega arith in digit_read 0 n l (omega arith) ∙ ap Some same

    more : (n : ℕ) (ds : List ℕ) → 10 ≤ n → (n / 10 < 256 → digits 0 ds ≡ Some (n / 10)) → n < 256 → digits 0 (ds ++ ((48 + n % 10) ∷ [])) ≡ Some n
    more n ds l rec k =
        let same : 10 * (n / 10) + n % 10 ≡ n = omega arith in
        digits_push ds 0 (n / 10) (48 + n % 10) (rec (omega arith)) ∙ digit_read (n / 10) (n % 10) (omega arith) (omega arith) ∙ ap Some same

pub weighs_back : (w : ℕ) → w < 256 → weight_of false (decimal w) ≡ Some w
weighs_back w h = weight_back w h

-- the side
pub side_back : (s : ℕ) → s < 2 → side_of false (decimal s) ≡ Some s
side_back zero h = ap (side_of false) (decimal_digit 0 (omega arith))
side_back (suc zero) h = ap (side_of false) (decimal_digit 1 (omega arith))
side_back (suc (suc s)) h = absurd (omega arith)

-- a number is one word
pub number_back : (n : ℕ) (rest : List ℕ) → n < 256 → apart rest ≡ true → next_piece (decimal n ++ rest) ≡ next (word false (decimal n)) rest
number_back n rest h a =
    let f = figures n h in
    let is : IsName (decimal n) = record { some = (decimal_is_IsNumeral n (omega arith)).0.0; short = omega (arith, length-decimal-le 3 n (omega arith) (omega arith) (omega arith)); clear = figures_clear (decimal n) f } in
    plain_back (decimal n) rest is (figures_plain (decimal n) f) (figures_named (decimal n) f) a
