-- Scans over the words of a set: what has been passed, counted or filled so far.
use Rattle.std.proofs.Common.{◌≡◌, ℕ, suc, ◌+◌, ◌-◌, ◌*◌, ◌/◌, ◌%◌, ◌^◌, ◌<◌, ◌≤◌, min, Bool, true, false, eqb, ltb, ◌⊎◌, List, [], ◌∷◌, length, get_or, drop, set, sym, ap, ◌∙◌, ap₂, inl, inr, arith}
use lib.Count.{ones, count_trailing_zeros}
use Rattle.std.specs.Bool.{MatchBool}
use Rattle.std.specs.List.{AllWithin, HoldsAt, enumerate_from, sum_by}
use Rattle.std.proofs.lemmas.List.{get_or_past, get_or_default, get_or-drop, length-drop}
use Rattle.std.proofs.lemmas.List.Sums.{sum_by-cons}
use Rattle.std.proofs.lemmas.List.FromFn.{length-enumerate_from, get_or-enumerate_from}
use Rattle.std.proofs.lemmas.Bool.{cases_eq, cases_lt, both_ways, lt-ltb, le-ltb, eq-eqb, ne_eqb}
use Rattle.endless.specs.Bits.{digit, members, count, size, Least, NoneFrom}
use Rattle.endless.proofs.BitLaws.{digit_none, digit_low, digit_past, digit_shr, ones_count, trailing_below, trailing_at, trailing_lt}
use Rattle.endless.proofs.CountLaws.{count_zero, count_same, count_add, count_below}
use Rattle.endless.proofs.SetLaws.{members_past, members_here, members_there, members_at, none_size, some_size}

-- ---- the lowest bit of a word

pub lowest_none : (w i : ℕ) → w / 2 ^ i ≡ 0 → NoneFrom (digit w) i
lowest_none w i e j l =
    ap (digit w) (let s : j ≡ i + (j - i) = omega arith in s) ∙ sym (digit_shr w i (j - i)) ∙ ap (λ x. digit x (j - i)) e ∙ digit_none (j - i)

module _ (w i : ℕ) (fits : w < 2 ^ 32) (some : w / 2 ^ i ≡ 0 → ⊥) where
  zeros_lt : w / 2 ^ i < 2 ^ 32 → count_trailing_zeros 32 (w / 2 ^ i) < 32
  zeros_lt h = trailing_lt 32 (w / 2 ^ i) h (let p : 0 < w / 2 ^ i = go (cases_eq (w / 2 ^ i) 0) in p)
    where
      go : (w / 2 ^ i ≡ 0) ⊎ (w / 2 ^ i ≡ 0 → ⊥) → 0 < w / 2 ^ i
      go (inl e) = absurd (some e)
      go (inr d) = omega arith

  pub lowest_is : Least (digit w) i (i + count_trailing_zeros 32 (w / 2 ^ i))
  lowest_is = record {
    after = omega arith;
    is = sym (digit_shr w i (count_trailing_zeros 32 (w / 2 ^ i)))
        ∙ trailing_at 32 (w / 2 ^ i) (zeros_lt (omega (arith, Rattle.std.proofs.lemmas.Nat.shr_le w i)));
    none = λ j l h. ap (digit w) (let s : j ≡ i + (j - i) = omega arith in s) ∙ sym (digit_shr w i (j - i))
        ∙ trailing_below 32 (w / 2 ^ i) (j - i) (omega arith);
  }

  pub lowest_lt : i + count_trailing_zeros 32 (w / 2 ^ i) < 32
  lowest_lt = go (cases_lt (i + count_trailing_zeros 32 (w / 2 ^ i)) 32)
    where
      go : (i + count_trailing_zeros 32 (w / 2 ^ i) < 32) ⊎ (32 ≤ i + count_trailing_zeros 32 (w / 2 ^ i)) → i + count_trailing_zeros 32 (w / 2 ^ i) < 32
      go (inl h) = h
      go (inr h) = absurd (both_ways (digit w (i + count_trailing_zeros 32 (w / 2 ^ i))) (digit_past 32 w (i + count_trailing_zeros 32 (w / 2 ^ i)) fits h) lowest_is.is)

-- ---- a scan that has found nothing yet: none of a set from i up to `upto`

pub record Passed (f : ℕ → Bool) (i upto : ℕ) : Type 0 where
  pub after : i ≤ upto
  pub none : (j : ℕ) → i ≤ j → j < upto → f j ≡ false

module _ (l : List ℕ) (i k s : ℕ) (passed : Passed (members l) i (32 * k + s)) where
  pub passed_more : s < 32 → NoneFrom (digit (get_or l k 0)) s → Passed (members l) i (32 * (k + 1) + 0)
  passed_more below clear = record { after = (let a = passed.after in omega arith); none = λ j a h. go j a h (cases_lt j (32 * k + s)) }
    where
      go : (j : ℕ) → i ≤ j → j < 32 * (k + 1) + 0 → (j < 32 * k + s) ⊎ (32 * k + s ≤ j) → members l j ≡ false
      go j a h (inl e) = passed.none j a e
      go j a h (inr e) =
          ap (members l) (let t : j ≡ 32 * k + (j - 32 * k) = omega arith in t) ∙ members_at l k (j - 32 * k) (omega arith)
          ∙ clear (j - 32 * k) (omega arith)

  pub passed_found : (bit : ℕ) → bit < 32 → Least (digit (get_or l k 0)) s bit → Least (members l) i (32 * k + bit)
  passed_found bit low least = record {
    after = (let a = passed.after in let b = least.after in omega arith);
    is = members_at l k bit low ∙ least.is;
    none = λ j a e. go j a e (cases_lt j (32 * k + s));
  }
    where
      go : (j : ℕ) → i ≤ j → j < 32 * k + bit → (j < 32 * k + s) ⊎ (32 * k + s ≤ j) → members l j ≡ false
      go j a h (inl e) = passed.none j a e
      go j a h (inr e) =
          ap (members l) (let t : j ≡ 32 * k + (j - 32 * k) = omega arith in t) ∙ members_at l k (j - 32 * k) (omega arith)
          ∙ least.none (j - 32 * k) (omega arith) (omega arith)

  pub passed_all : length l ≤ k → NoneFrom (members l) i
  passed_all past j a = go (cases_lt j (32 * k + s))
    where
      go : (j < 32 * k + s) ⊎ (32 * k + s ≤ j) → members l j ≡ false
      go (inl e) = passed.none j a e
      go (inr e) = members_past l j (omega arith)

-- an item of the numbered words behind the first n
pub numbered : (l : List ℕ) (n i k w : ℕ) → i < length (drop n (enumerate_from 0 l)) → ◌≡◌ {A = ℕ × ℕ} (k, w) (get_or (drop n (enumerate_from 0 l)) i (k, w))
    → (k ≡ n + i) × (w ≡ get_or l (n + i) 0)
numbered l n i k w h e = (let a : k ≡ 0 + (n + i) = ap (λ (p : ℕ × ℕ). p.0) is in omega arith, ap (λ (p : ℕ × ℕ). p.1) is ∙ get_or_default l (n + i) w 0 below)
  where
    below : n + i < length l
    below = omega (arith, h, length-drop n (enumerate_from 0 l), length-enumerate_from 0 l)

    is : ◌≡◌ {A = ℕ × ℕ} (k, w) (0 + (n + i), get_or l (n + i) w)
    is = e ∙ get_or-drop n (enumerate_from 0 l) i (k, w) ∙ get_or-enumerate_from 0 l (n + i) (k, w) below

pub numbered_end : (l : List ℕ) (n i : ℕ) → i ≡ length (drop n (enumerate_from 0 l)) → length l ≤ n + i
numbered_end l n i e = omega (arith, e, length-drop n (enumerate_from 0 l), length-enumerate_from 0 l)

-- a word that is 0 has no bit
pub none_of_zero : (w s : ℕ) → w ≡ 0 → NoneFrom (digit w) s
none_of_zero w s e j l = ap (λ x. digit x j) e ∙ digit_none j

-- a word that is not 0 has a member
pub some_of_word : (l : List ℕ) (k : ℕ) → get_or l k 0 < 2 ^ 32 → (get_or l k 0 ≡ 0 → ⊥) → 0 < size l
some_of_word l k fits some =
    some_size l (32 * k + count_trailing_zeros 32 (get_or l k 0)) (members_at l k (count_trailing_zeros 32 (get_or l k 0)) below ∙ trailing_at 32 (get_or l k 0) below)
  where
    go : (get_or l k 0 ≡ 0) ⊎ (get_or l k 0 ≡ 0 → ⊥) → 0 < get_or l k 0
    go (inl e) = absurd (some e)
    go (inr d) = omega arith

    below : count_trailing_zeros 32 (get_or l k 0) < 32
    below = trailing_lt 32 (get_or l k 0) fits (go (cases_eq (get_or l k 0) 0))

-- a set has no member where each of its words is 0
pub empty_words : (l : List ℕ) (r : Bool) → ((k : ℕ) → get_or l k 0 < 2 ^ 32)
    → MatchBool r (AllWithin (λ w. w ≡ 0) l 0 (length l)) ((k : ℕ) × (k < length l) × HoldsAt (λ w. w ≡ 0 → ⊥) l k) → r ≡ eqb (size l) 0
empty_words l true fits all = sym (eq-eqb (size l) 0 (none_size l out))
  where
    word : (k : ℕ) → (k < length l) ⊎ (length l ≤ k) → get_or l k 0 ≡ 0
    word k (inl h) = all k 0 (omega arith) h
    word k (inr h) = get_or_past l k 0 h

    out : (j : ℕ) → members l j ≡ false
    out j = ap (members l) (let t : j ≡ 32 * (j / 32) + j % 32 = omega arith in t) ∙ members_at l (j / 32) (j % 32) (omega arith)
        ∙ none_of_zero (get_or l (j / 32) 0) 0 (word (j / 32) (cases_lt (j / 32) (length l))) (j % 32) (omega arith)
empty_words l false fits (k, h, some) = sym (ne_eqb (size l) 0 (λ e. let p = some_of_word l k (fits k) (some 0) in omega arith))

-- ---- members counted

pub members_cons : (w : ℕ) (ws : List ℕ) (j : ℕ) → members (w ∷ ws) (32 + j) ≡ members ws j
unfolding members
members_cons w ws j =
    ap₂ (λ q r. digit (get_or (w ∷ ws) q 0) r)
    (let e : (32 + j) / 32 ≡ suc (j / 32) = omega arith in e) (let e : (32 + j) % 32 ≡ j % 32 = omega arith in e)

pub members_head : (w : ℕ) (ws : List ℕ) (j : ℕ) → j < 32 → members (w ∷ ws) j ≡ digit w j
unfolding members
members_head w ws j h =
    ap₂ (λ q r. digit (get_or (w ∷ ws) q 0) r)
    (let e : j / 32 ≡ 0 = omega arith in e) (let e : j % 32 ≡ j = omega arith in e)

pub size_cons : (w : ℕ) (ws : List ℕ) → w < 2 ^ 32 → size (w ∷ ws) ≡ ones w + size ws
unfolding size
size_cons w ws h =
    ap (count (members (w ∷ ws))) (let e : 32 * suc (length ws) ≡ 32 + 32 * length ws = omega arith in e)
    ∙ count_add (members (w ∷ ws)) 32 (32 * length ws)
    ∙ ap₂ (λ a b. a + b)
    (count_same (members (w ∷ ws)) (digit w) 32 (members_head w ws) ∙ sym (ones_count 32 w h))
    (count_same (λ j. members (w ∷ ws) (32 + j)) (members ws) (32 * length ws) (λ j l. members_cons w ws j))

pub size_nil : size [] ≡ 0
unfolding size
size_nil = count_zero (members [])

-- the bits of each word, summed up
pub ones_summed : (l : List ℕ) → ((k : ℕ) → get_or l k 0 < 2 ^ 32) → sum_by ones l ≡ size l
ones_summed [] fits = sym size_nil
ones_summed (w ∷ ws) fits = sum_by-cons ones w ws ∙ ap (λ n. ones w + n) (ones_summed ws (λ k. fits (suc k))) ∙ sym (size_cons w ws (fits 0))

-- ---- the places below n, in the first i words

pub record Filled (l : List ℕ) (n i left : ℕ) : Type 0 where
  pub rest : left ≡ n - 32 * i
  pub are : (j : ℕ) → j < 32 * i → members l j ≡ ltb j n

pub filled_more : (l : List ℕ) (n i left here w : ℕ) → i < length l → here ≡ min left 32 → w ≡ 2 ^ here - 1 → Filled l n i left
    → Filled (set l i w) n (i + 1) (left - here)
filled_more l n i left here w h e is f = record { rest = (let r = f.rest in omega arith); are = λ j k. go j k (cases_eq (j / 32) i) }
  where
    low : (j : ℕ) → j / 32 ≡ i → (j < n) ⊎ (n ≤ j) → ltb (j % 32) here ≡ ltb j n
    low j s (inl k) = let r = f.rest in lt-ltb (j % 32) here (omega arith) ∙ sym (lt-ltb j n k)
    low j s (inr k) = let r = f.rest in le-ltb (j % 32) here (omega arith) ∙ sym (le-ltb j n k)

    go : (j : ℕ) → j < 32 * (i + 1) → (j / 32 ≡ i) ⊎ (j / 32 ≡ i → ⊥) → members (set l i w) j ≡ ltb j n
    go j k (inl s) = members_here l i w j h s ∙ ap (λ x. digit x (j % 32)) is ∙ digit_low here (j % 32) ∙ low j s (cases_lt j n)
    go j k (inr d) = members_there l i w j d ∙ f.are j (omega arith)

pub filled_all : (l : List ℕ) (n i left : ℕ) → length l ≤ i → n ≤ 32 * length l → Filled l n i left → (j : ℕ) → members l j ≡ ltb j n
filled_all l n i left h room f j = go (cases_lt j (32 * i))
  where
    go : (j < 32 * i) ⊎ (32 * i ≤ j) → members l j ≡ ltb j n
    go (inl k) = f.are j k
    go (inr k) = members_past l j (omega arith) ∙ sym (le-ltb j n (omega arith))

pub size_below : (l : List ℕ) (n : ℕ) → n ≤ 32 * length l → ((j : ℕ) → members l j ≡ ltb j n) → size l ≡ n
unfolding size
size_below l n room are = count_same (members l) (λ j. ltb j n) (32 * length l) (λ j h. are j) ∙ count_below n (32 * length l) room
