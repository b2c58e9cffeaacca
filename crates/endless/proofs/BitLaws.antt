-- The bits of a word: of a conjunction, a disjunction, a complement and powers of two, and the lowest bit that is set.
use Rattle.std.proofs.Common.{◌≡◌, ℕ, zero, suc, ◌+◌, ◌-◌, ◌/◌, ◌%◌, ◌^◌, ◌<◌, ◌≤◌, min, max, true, false, cond, not, Bool, ◌&&◌, ◌||◌, eqb, ltb, ◌⊎◌, sym, refl, ap, ◌∙◌, ap₂, inl, inr, pow-suc, div-one, arith, pow_mono, eqb→eq}
use native.Mathlib.Nat.{zero-div}
use lib.Dec.{eqb-suc-suc, leb-suc-suc, leb-suc-zero, eqb-zero-suc, eqb-suc-zero}
use lib.Bits.{bit_and, bit_or, and_step, or_step}
use lib.Count.{count_trailing_zeros, under}
use lib.Count.{ones, ones_step}
use Rattle.std.proofs.lemmas.Nat.{shr-shr, and_shr, or_shr, mod-mul-add, div_below, pow_pos}
use Rattle.std.proofs.lemmas.Bool.{cases_eq, lt-ltb, eq-eqb, both_ways}
use Rattle.endless.specs.Bits.{digit, count}
use Rattle.endless.proofs.Tests.{true_T}
use Rattle.endless.proofs.CountLaws.{count_zero, count_front, count_same}

-- the lowest bit, and the bits above it
pub digit_zero : (w : ℕ) → digit w 0 ≡ eqb (w % 2) 1
unfolding digit
digit_zero w = ap (λ x. eqb (x % 2) 1) (div-one w)

pub digit_suc : (w k : ℕ) → digit w (suc k) ≡ digit (w / 2) k
unfolding digit
digit_suc w k = ap (λ x. eqb (x % 2) 1) (sym (shr-shr w 1 k ∙ ap (λ x. w / 2 ^ x) (omega arith)))

pub digit_none : (k : ℕ) → digit 0 k ≡ false
unfolding digit
digit_none k = ap (λ x. eqb (x % 2) 1) (zero-div (2 ^ k))

both : (x y : ℕ) → x < 2 → y < 2 → eqb (min x y) 1 ≡ (eqb x 1 && eqb y 1)
both zero zero h k = refl
both zero (suc zero) h k = refl
both (suc zero) zero h k = refl
both (suc zero) (suc zero) h k = refl
both zero (suc (suc y)) h k = absurd (omega arith)
both (suc zero) (suc (suc y)) h k = absurd (omega arith)
both (suc (suc x)) y h k = absurd (omega arith)

either : (x y : ℕ) → x < 2 → y < 2 → eqb (max x y) 1 ≡ (eqb x 1 || eqb y 1)
either zero zero h k = refl
either zero (suc zero) h k = refl
either (suc zero) zero h k = refl
either (suc zero) (suc zero) h k = refl
either zero (suc (suc y)) h k = absurd (omega arith)
either (suc zero) (suc (suc y)) h k = absurd (omega arith)
either (suc (suc x)) y h k = absurd (omega arith)

turned : (x : ℕ) → x < 2 → eqb (1 - x) 1 ≡ not (eqb x 1)
turned zero h = refl
turned (suc zero) h = refl
turned (suc (suc x)) h = absurd (omega arith)

and_low : (a b : ℕ) → bit_and a b % 2 ≡ min (a % 2) (b % 2)
and_low a b = ap (λ x. x % 2) (and_step a b) ∙ mod-mul-add (bit_and (a / 2) (b / 2)) 2 (min (a % 2) (b % 2)) (omega arith)

or_low : (a b : ℕ) → bit_or a b % 2 ≡ max (a % 2) (b % 2)
or_low a b = ap (λ x. x % 2) (or_step a b) ∙ mod-mul-add (bit_or (a / 2) (b / 2)) 2 (max (a % 2) (b % 2)) (omega arith)

pub digit_and : (a b k : ℕ) → digit (bit_and a b) k ≡ (digit a k && digit b k)
unfolding digit
digit_and a b k =
    ap (λ x. eqb (x % 2) 1) (and_shr a b k) ∙ ap (λ x. eqb x 1) (and_low (a / 2 ^ k) (b / 2 ^ k))
    ∙ both (a / 2 ^ k % 2) (b / 2 ^ k % 2) (omega arith) (omega arith)

pub digit_or : (a b k : ℕ) → digit (bit_or a b) k ≡ (digit a k || digit b k)
unfolding digit
digit_or a b k =
    ap (λ x. eqb (x % 2) 1) (or_shr a b k) ∙ ap (λ x. eqb x 1) (or_low (a / 2 ^ k) (b / 2 ^ k))
    ∙ either (a / 2 ^ k % 2) (b / 2 ^ k % 2) (omega arith) (omega arith)

-- one bit
pub digit_power : (i k : ℕ) → digit (2 ^ i) k ≡ eqb k i
digit_power zero zero = digit_zero 1
digit_power zero (suc k) = digit_suc 1 k ∙ digit_none k ∙ sym (eqb-suc-zero k)
digit_power (suc i) zero =
    digit_zero (2 ^ suc i) ∙ ap (λ x. eqb x 1) (let e : 2 ^ suc i % 2 ≡ 0 = omega (arith, pow-suc 2 i) in e) ∙ sym (eqb-zero-suc i)
digit_power (suc i) (suc k) =
    digit_suc (2 ^ suc i) k ∙ ap (λ x. digit x k) (let e : 2 ^ suc i / 2 ≡ 2 ^ i = omega (arith, pow-suc 2 i) in e) ∙ digit_power i k
    ∙ sym (eqb-suc-suc k i)

-- the n lowest bits
pub digit_low : (n k : ℕ) → digit (2 ^ n - 1) k ≡ ltb k n
digit_low zero k = digit_none k ∙ sym (leb-suc-zero k)
digit_low (suc n) zero =
    digit_zero (2 ^ suc n - 1) ∙ ap (λ x. eqb x 1) (let e : (2 ^ suc n - 1) % 2 ≡ 1 = omega (arith, pow-suc 2 n, pow_pos n) in e)
    ∙ sym (lt-ltb 0 (suc n) (omega arith))
digit_low (suc n) (suc k) =
    digit_suc (2 ^ suc n - 1) k ∙ ap (λ x. digit x k) (let e : (2 ^ suc n - 1) / 2 ≡ 2 ^ n - 1 = omega (arith, pow-suc 2 n, pow_pos n) in e)
    ∙ digit_low n k ∙ sym (leb-suc-suc (suc k) n)

-- the complement of a word of n bits
pub digit_not : (n x k : ℕ) → x < 2 ^ n → k < n → digit (2 ^ n - 1 - x) k ≡ not (digit x k)
digit_not zero x k h below = absurd (omega arith)
digit_not (suc n) x zero h below =
    digit_zero (2 ^ suc n - 1 - x)
    ∙ ap (λ y. eqb y 1) (let e : (2 ^ suc n - 1 - x) % 2 ≡ 1 - x % 2 = omega (arith, pow-suc 2 n) in e)
    ∙ turned (x % 2) (omega arith) ∙ ap not (sym (digit_zero x))
digit_not (suc n) x (suc k) h below =
    digit_suc (2 ^ suc n - 1 - x) k
    ∙ ap (λ y. digit y k) (let e : (2 ^ suc n - 1 - x) / 2 ≡ 2 ^ n - 1 - x / 2 = omega (arith, pow-suc 2 n) in e)
    ∙ digit_not n (x / 2) k (omega (arith, pow-suc 2 n)) (omega arith) ∙ ap not (sym (digit_suc x k))

-- a word of n bits has none past them
pub digit_past : (n w k : ℕ) → w < 2 ^ n → n ≤ k → digit w k ≡ false
unfolding digit
digit_past n w k h l =
    ap (λ x. eqb (x % 2) 1)
    (let low : w / 2 ^ k < 1 = div_below w (2 ^ k) 1 (pow_pos k) (omega (arith, pow_mono {i = n} {j = k} l)) in
    let e : w / 2 ^ k ≡ 0 = omega arith in e)

-- the bits that are set, counted
lowest_one : (x : ℕ) → x < 2 → cond (eqb x 1) 1 0 ≡ x
lowest_one zero h = refl
lowest_one (suc zero) h = refl
lowest_one (suc (suc x)) h = absurd (omega arith)

ones_zero : ones 0 ≡ 0
unfolding ones
ones_zero = refl

pub ones_count : (n w : ℕ) → w < 2 ^ n → ones w ≡ count (digit w) n
ones_count zero w h = ap ones (let e : w ≡ 0 = omega arith in e) ∙ ones_zero ∙ sym (count_zero (digit w))
ones_count (suc n) w h =
    let low : cond (digit w 0) 1 0 ≡ w % 2 = ap (λ b. cond b 1 0) (digit_zero w) ∙ lowest_one (w % 2) (omega arith) in
    let rest : ones (w / 2) ≡ count (digit (w / 2)) n = ones_count n (w / 2) (omega (arith, pow-suc 2 n)) in
    let same : count (λ k. digit w (suc k)) n ≡ count (digit (w / 2)) n = count_same (λ k. digit w (suc k)) (digit (w / 2)) n (λ k l. digit_suc w k) in
    omega (arith, ones_step w, count_front (digit w) n)

-- a shift to the right
pub digit_shr : (w j k : ℕ) → digit (w / 2 ^ j) k ≡ digit w (j + k)
unfolding digit
digit_shr w j k = ap (λ x. eqb (x % 2) 1) (shr-shr w j k)

-- the lowest bit that is set: none below it is, and it is, if the word is not 0
pub trailing_below : (n w k : ℕ) → k < count_trailing_zeros n w → digit w k ≡ false
unfolding count_trailing_zeros
trailing_below zero w k h = absurd (omega arith)
trailing_below (suc n) w k h = go (w % 2) refl k h (λ j. trailing_below n (w / 2) j)
  where
    go : (d : ℕ) → w % 2 ≡ d → (k : ℕ) → k < under d (count_trailing_zeros n (w / 2)) → ((j : ℕ) → j < count_trailing_zeros n (w / 2) → digit (w / 2) j ≡ false) → digit w k ≡ false
    go zero e zero h rest = digit_zero w ∙ ap (λ x. eqb x 1) e
    go zero e (suc k) h rest = digit_suc w k ∙ rest k (omega arith)
    go (suc d) e k h rest = absurd (omega arith)

pub trailing_at : (n w : ℕ) → count_trailing_zeros n w < n → digit w (count_trailing_zeros n w) ≡ true
unfolding count_trailing_zeros
trailing_at zero w h = absurd (omega arith)
trailing_at (suc n) w h = go (w % 2) refl h (trailing_at n (w / 2))
  where
    go : (d : ℕ) → w % 2 ≡ d → under d (count_trailing_zeros n (w / 2)) < suc n → (count_trailing_zeros n (w / 2) < n → digit (w / 2) (count_trailing_zeros n (w / 2)) ≡ true)
        → digit w (under d (count_trailing_zeros n (w / 2))) ≡ true
    go zero e h rest = digit_suc w (count_trailing_zeros n (w / 2)) ∙ rest (omega arith)
    go (suc zero) e h rest = digit_zero w ∙ ap (λ x. eqb x 1) e
    go (suc (suc d)) e h rest = absurd (omega arith)

pub trailing_lt : (n w : ℕ) → w < 2 ^ n → 0 < w → count_trailing_zeros n w < n
unfolding count_trailing_zeros
trailing_lt zero w h p = absurd (omega arith)
trailing_lt (suc n) w h p = go (w % 2) refl (trailing_lt n (w / 2) (omega (arith, pow-suc 2 n)))
  where
    go : (d : ℕ) → w % 2 ≡ d → (0 < w / 2 → count_trailing_zeros n (w / 2) < n) → under d (count_trailing_zeros n (w / 2)) < suc n
    go zero e rest = let k : count_trailing_zeros n (w / 2) < n = rest (omega arith) in omega arith
    go (suc d) e rest = omega arith

-- that bit cleared: of the word and the one before it, the bits that both have
odd : (w : ℕ) → digit w 0 ≡ true → w % 2 ≡ 1
odd w is = eqb→eq (w % 2) 1 (true_T _ (sym (digit_zero w) ∙ is))

even : (w : ℕ) → digit w 0 ≡ false → w % 2 ≡ 0
even w is = go (cases_eq (w % 2) 1)
  where
    go : (w % 2 ≡ 1) ⊎ (w % 2 ≡ 1 → ⊥) → w % 2 ≡ 0
    go (inl e) = absurd (both_ways (eqb (w % 2) 1) (sym (digit_zero w) ∙ is) (eq-eqb (w % 2) 1 e))
    go (inr d) = omega arith

cleared_here : (a : Bool) {b c : Bool} → b ≡ false → c ≡ true → (a && b) ≡ (not c && a)
cleared_here true e is = rw (e, is) refl
cleared_here false e is = rw is refl

cleared_above : (a : Bool) {b c : Bool} → b ≡ a → c ≡ false → (a && b) ≡ (not c && a)
cleared_above true e is = rw (e, is) refl
cleared_above false e is = rw is refl

cleared_below : {a : Bool} (b c : Bool) → a ≡ false → (a && b) ≡ (not c && a)
cleared_below b true e = rw e refl
cleared_below b false e = rw e refl

cleared : (b w k : ℕ) → digit w b ≡ true → ((j : ℕ) → j < b → digit w j ≡ false) → (digit w k && digit (w - 1) k) ≡ (not (eqb k b) && digit w k)
cleared zero w zero is none =
    cleared_here (digit w 0) (digit_zero (w - 1) ∙ ap (λ x. eqb x 1) (let e : (w - 1) % 2 ≡ 0 = omega (arith, odd w is) in e)) (eq-eqb 0 0 refl)
cleared zero w (suc k) is none =
    cleared_above (digit w (suc k))
    (digit_suc (w - 1) k ∙ ap (λ x. digit x k) (let e : (w - 1) / 2 ≡ w / 2 = omega (arith, odd w is) in e) ∙ sym (digit_suc w k))
    (eqb-suc-zero k)
cleared (suc b) w zero is none = cleared_below (digit (w - 1) 0) (eqb 0 (suc b)) (none 0 (omega arith))
cleared (suc b) w (suc k) is none =
    ap₂ (λ x y. x && y) (digit_suc w k)
    (digit_suc (w - 1) k ∙ ap (λ x. digit x k) (let e : (w - 1) / 2 ≡ w / 2 - 1 = omega (arith, even w (none 0 (omega arith))) in e))
    ∙ cleared b (w / 2) k (sym (digit_suc w b) ∙ is) (λ j h. sym (digit_suc w j) ∙ none (suc j) (omega arith))
    ∙ ap₂ (λ c a. not c && a) (sym (eqb-suc-suc k b)) (sym (digit_suc w k))

pub digit_cleared : (w b k : ℕ) → digit w b ≡ true → ((j : ℕ) → j < b → digit w j ≡ false) → digit (bit_and w (w - 1)) k ≡ (not (eqb k b) && digit w k)
digit_cleared w b k is none = digit_and w (w - 1) k ∙ cleared b w k is none
