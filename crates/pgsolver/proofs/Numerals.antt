-- A number that is written is read again.
use Rattle.std.proofs.Common.{◌≡◌, ℕ, suc, ◌+◌, ◌-◌, ◌*◌, ◌^◌, ◌<◌, ◌≤◌, true, false, List, [], ◌∷◌, ◌++◌, length, drop, Ok, sym, refl, ap, ◌∙◌, arith, rules}
use Rattle.std.specs.Char.{is_ascii_digit}
use Rattle.std.specs.Fmt.{decimal}
use Rattle.std.specs.List.{prefix_len}
use Rattle.std.proofs.lemmas.Bool.{cond-true, cond-false, lt-ltb, and_parts}
use Rattle.std.proofs.lemmas.Bool.Decides.{nat_tests}
use Rattle.std.proofs.lemmas.Fmt.{digits_decimal, digits_value-decimal, decimal_nonempty}
use Rattle.std.proofs.lemmas.Str.Parse.{IsNumeralModel, numerals_by_fold}
use Rattle.pgsolver.specs.declared.refusal.Fault.{Fault}
use Rattle.pgsolver.specs.Called.{digits_alone}
use Rattle.pgsolver.specs.Form.{blank, skip, digits, numeral, number}

-- the number that digits are, behind those that were read
read_on : ℕ → List ℕ → ℕ
read_on n [] = n
read_on n (c ∷ cs) = read_on (10 * n + (c - 48)) cs

numerals : IsNumeralModel (λ ds. digits_alone ds ≡ true) (read_on 0)
unfolding read_on
numerals = numerals_by_fold _ (search rules) read_on (search rules)

read_up : (n : ℕ) (ds : List ℕ) → n ≤ read_on n ds
unfolding read_on
read_up n [] = omega arith
read_up n (d ∷ ds) = omega (arith, read_up (10 * n + (d - 48)) ds)

pub decimal_alone : (n : ℕ) → n < 2 ^ 64 → digits_alone (decimal n) ≡ true
decimal_alone n h = digits_decimal numerals n h

-- digits are read up to the first byte that is none
digits_on : (n : ℕ) (ds : List ℕ) (c : ℕ) (rest : List ℕ) → digits_alone ds ≡ true → read_on n ds < 4294967296 → is_ascii_digit c ≡ false → digits n (ds ++ (c ∷ rest)) ≡ Ok (read_on n ds, c ∷ rest)
unfolding read_on
digits_on n [] c rest h l stop = cond-false _ _ _ stop
digits_on n (d ∷ ds) c rest h l stop =
    let p = and_parts (is_ascii_digit d) (digits_alone ds) h in
    let m = 10 * n + (d - 48) in
    cond-true _ _ _ p.0
    ∙ cond-true _ _ _ (lt-ltb m 4294967296 (omega (arith, l, read_up m ds)))
    ∙ digits_on m ds c rest p.1 l stop

-- a digit is no blank
no_blank : (d : ℕ) → is_ascii_digit d ≡ true → blank d ≡ false
no_blank d h = grind (arith, nat_tests)

skip_none : (b : ℕ) (bs : List ℕ) → blank b ≡ false → skip (b ∷ bs) ≡ b ∷ bs
skip_none b bs h = ap (λ n. drop n (b ∷ bs)) (cond-false (blank b) (1 + prefix_len blank bs) 0 h)

pub skip_one : (b : ℕ) (bs : List ℕ) → blank b ≡ true → skip (b ∷ bs) ≡ skip bs
skip_one b bs h = let one : 1 + prefix_len blank bs ≡ suc (prefix_len blank bs) = omega arith in ap (λ n. drop n (b ∷ bs)) (cond-true (blank b) (1 + prefix_len blank bs) 0 h ∙ one)

-- a number begins with a digit
pub record Begins (text : List ℕ) : Type 0 where
  pub digit : ℕ
  pub rest : List ℕ
  pub is : text ≡ digit ∷ rest
  pub digital : is_ascii_digit digit ≡ true

pub begins : (n : ℕ) (rest : List ℕ) → n < 4294967296 → Begins (decimal n ++ rest)
begins n rest h = at (decimal n) refl
  where
    at : (ds : List ℕ) → decimal n ≡ ds → Begins (decimal n ++ rest)
    at [] e = absurd (omega (arith, decimal_nonempty n (omega arith), ap length e))
    at (d ∷ ds) e = record { digit = d; rest = ds ++ rest; is = ap (λ l. l ++ rest) e; digital = (and_parts (is_ascii_digit d) (digits_alone ds) (ap digits_alone (sym e) ∙ decimal_alone n (omega arith))).0 }

pub skip_begins : (text : List ℕ) → Begins text → skip text ≡ text
skip_begins text b = ap skip b.is ∙ skip_none b.digit b.rest (no_blank b.digit b.digital) ∙ sym b.is

numeral_begins : (f : Fault) (text : List ℕ) → Begins text → numeral f text ≡ digits 0 text
numeral_begins f text b = ap (numeral f) b.is ∙ cond-true (is_ascii_digit b.digit) _ _ b.digital ∙ ap (digits 0) (sym b.is)

-- a number is read up to a byte that is no digit
number_read : (f : Fault) (n c : ℕ) (rest : List ℕ) → n < 4294967296 → is_ascii_digit c ≡ false → number f (decimal n ++ (c ∷ rest)) ≡ Ok (n, c ∷ rest)
number_read f n c rest h stop =
    let text = decimal n ++ (c ∷ rest) in
    let b = begins n (c ∷ rest) h in
    let value : read_on 0 (decimal n) ≡ n = digits_value-decimal numerals n (omega arith) in
    ap (numeral f) (skip_begins text b)
    ∙ numeral_begins f text b
    ∙ digits_on 0 (decimal n) c rest (decimal_alone n (omega arith)) (omega (arith, value, h)) stop
    ∙ ap (λ m. Ok (m, c ∷ rest)) value

-- what stands behind a number
pub record Follows (text : List ℕ) : Type 0 where
  pub byte : ℕ
  pub rest : List ℕ
  pub is : text ≡ byte ∷ rest
  pub other : is_ascii_digit byte ≡ false

pub number_to : (f : Fault) (n : ℕ) (text : List ℕ) → Follows text → n < 4294967296 → number f (decimal n ++ text) ≡ Ok (n, text)
number_to f n text b h = ap (λ l. number f (decimal n ++ l)) b.is ∙ number_read f n b.byte b.rest h b.other ∙ ap (λ l. Ok (n, l)) (sym b.is)

-- and behind a blank
pub number_behind : (f : Fault) (n : ℕ) (text : List ℕ) → Follows text → n < 4294967296 → number f (32 ∷ (decimal n ++ text)) ≡ Ok (n, text)
number_behind f n text b h = ap (numeral f) (skip_one 32 (decimal n ++ text) refl) ∙ number_to f n text b h
