-- Sets of places as bits of words: what a write of a word does to the members, and how many there are.
use Rattle.std.proofs.Common.{◌≡◌, ℕ, zero, suc, ◌+◌, ◌-◌, ◌*◌, ◌/◌, ◌%◌, ◌^◌, ◌<◌, ◌≤◌, Bool, true, false, not, ◌&&◌, ◌||◌, eqb, ◌⊎◌, List, length, get_or, set, replicate, sym, refl, ap, ◌∙◌, subst, ap₂, inl, inr, arith}
use lib.Bits.{bit_and, bit_or}
use Rattle.std.proofs.lemmas.Nat.{one_shl, pow_below}
use Rattle.std.proofs.lemmas.List.{get_or-set_same, get_or-set_other, get_or_past, set-get_or, length-set}
use Rattle.std.proofs.lemmas.Bool.{cases_eq, cases_lt, both_ways, eq-eqb, ne_eqb}
use Rattle.endless.specs.Bits.{digit, members, count, size, Inserted, Removed}
use Rattle.endless.proofs.BitLaws.{digit_none, digit_and, digit_or, digit_power, digit_not}
use Rattle.endless.proofs.CountLaws.{count_same, count_le, count_sub, count_sub_lt, count_with, count_without, count_none, none_count, count_some, some_count}

-- past the words there is no member
pub members_past : (l : List ℕ) (i : ℕ) → length l ≤ i / 32 → members l i ≡ false
unfolding members
members_past l i h = ap (λ w. digit w (i % 32)) (get_or_past l (i / 32) 0 h) ∙ digit_none (i % 32)

-- a word written
pub members_here : (l : List ℕ) (q w j : ℕ) → q < length l → j / 32 ≡ q → members (set l q w) j ≡ digit w (j % 32)
unfolding members
members_here l q w j h e =
    ap (λ k. digit (get_or (set l q w) k 0) (j % 32)) e ∙ ap (λ x. digit x (j % 32)) (get_or-set_same l q w 0 h)

pub members_there : (l : List ℕ) (q w j : ℕ) → (j / 32 ≡ q → ⊥) → members (set l q w) j ≡ members l j
unfolding members
members_there l q w j h = ap (λ x. digit x (j % 32)) (get_or-set_other l q (j / 32) w 0 h)

-- bit b of word k
pub members_at : (l : List ℕ) (k b : ℕ) → b < 32 → members l (32 * k + b) ≡ digit (get_or l k 0) b
unfolding members
members_at l k b h =
    ap₂ (λ q r. digit (get_or l q 0) r)
    (let e : (32 * k + b) / 32 ≡ k = omega arith in e) (let e : (32 * k + b) % 32 ≡ b = omega arith in e)

-- two numbers with the same quotient are equal where the remainders are
same_rest : (j i : ℕ) → j / 32 ≡ i / 32 → eqb (j % 32) (i % 32) ≡ eqb j i
same_rest j i e = go (cases_eq j i)
  where
    go : (j ≡ i) ⊎ (j ≡ i → ⊥) → eqb (j % 32) (i % 32) ≡ eqb j i
    go (inl d) = eq-eqb (j % 32) (i % 32) (ap (λ x. x % 32) d) ∙ sym (eq-eqb j i d)
    go (inr d) = ne_eqb (j % 32) (i % 32) (λ s. d (omega arith)) ∙ sym (ne_eqb j i d)

apart : (j i : ℕ) → (j / 32 ≡ i / 32 → ⊥) → eqb j i ≡ false
apart j i d = ne_eqb j i (λ e. d (ap (λ x. x / 32) e))

or_swap : (a b : Bool) → (a || b) ≡ (b || a)
or_swap true true = refl
or_swap true false = refl
or_swap false true = refl
or_swap false false = refl

and_swap : (a b : Bool) → (a && b) ≡ (b && a)
and_swap true true = refl
and_swap true false = refl
and_swap false true = refl
and_swap false false = refl

-- a member lies below 32 times the number of words
pub members_below : (l : List ℕ) (i : ℕ) → members l i ≡ true → i < 32 * length l
members_below l i e = go (cases_lt i (32 * length l))
  where
    go : (i < 32 * length l) ⊎ (32 * length l ≤ i) → i < 32 * length l
    go (inl h) = h
    go (inr h) = absurd (both_ways (members l i) (members_past l i (omega arith)) e)

-- two sets of as many words with the same members have the same size
pub size_same : (l r : List ℕ) → length l ≡ length r → ((j : ℕ) → members l j ≡ members r j) → size l ≡ size r
unfolding size
size_same l r e same =
    ap (λ n. count (members l) (32 * n)) e ∙ count_same (members l) (members r) (32 * length r) (λ j h. same j)

pub size_le : (l : List ℕ) → size l ≤ 32 * length l
unfolding size
size_le l = count_le (members l) (32 * length l)

pub size_none : (l : List ℕ) → size l ≡ 0 → (j : ℕ) → members l j ≡ false
unfolding size
size_none l e j = go (cases_lt j (32 * length l))
  where
    go : (j < 32 * length l) ⊎ (32 * length l ≤ j) → members l j ≡ false
    go (inl h) = count_none (members l) (32 * length l) e j h
    go (inr h) = members_past l j (omega arith)

pub none_size : (l : List ℕ) → ((j : ℕ) → members l j ≡ false) → size l ≡ 0
unfolding size
none_size l h = none_count (members l) (32 * length l) (λ j k. h j)

pub size_some : (l : List ℕ) → 0 < size l → (j : ℕ) × (members l j ≡ true)
unfolding size
size_some l p = let t = count_some (members l) (32 * length l) p in (t.0, t.2)

pub some_size : (l : List ℕ) (j : ℕ) → members l j ≡ true → 0 < size l
unfolding size
some_size l j e = some_count (members l) (32 * length l) j (members_below l j e) e

-- one member more, one member less
pub size_with : (l r : List ℕ) (i : ℕ) → length r ≡ length l → i / 32 < length l → members l i ≡ false
    → ((j : ℕ) → members r j ≡ (eqb j i || members l j)) → size r ≡ size l + 1
unfolding size
size_with l r i e h out are =
    ap (λ n. count (members r) (32 * n)) e ∙ count_with (members l) (members r) i (32 * length l) (omega arith) out are

pub size_without : (l r : List ℕ) (i : ℕ) → length r ≡ length l → members l i ≡ true
    → ((j : ℕ) → members r j ≡ (not (eqb j i) && members l j)) → size r + 1 ≡ size l
unfolding size
size_without l r i e is are =
    ap (λ n. count (members r) (32 * n) + 1) e ∙ count_without (members l) (members r) i (32 * length l) (members_below l i is) is are

-- a bit set
pub insert_are : (l : List ℕ) (i : ℕ) → i / 32 < length l
    → (j : ℕ) → members (set l (i / 32) (bit_or (get_or l (i / 32) 0) (2 ^ (i % 32)))) j ≡ (eqb j i || members l j)
unfolding members
insert_are l i h j = go (cases_eq (j / 32) (i / 32))
  where
    go : (j / 32 ≡ i / 32) ⊎ (j / 32 ≡ i / 32 → ⊥) → members (set l (i / 32) (bit_or (get_or l (i / 32) 0) (2 ^ (i % 32)))) j ≡ (eqb j i || members l j)
    go (inl e) =
        members_here l (i / 32) (bit_or (get_or l (i / 32) 0) (2 ^ (i % 32))) j h e
        ∙ digit_or (get_or l (i / 32) 0) (2 ^ (i % 32)) (j % 32)
        ∙ or_swap (digit (get_or l (i / 32) 0) (j % 32)) (digit (2 ^ (i % 32)) (j % 32))
        ∙ ap₂ (λ a k. a || digit (get_or l k 0) (j % 32)) (digit_power (i % 32) (j % 32) ∙ same_rest j i e) (sym e)
    go (inr d) =
        members_there l (i / 32) (bit_or (get_or l (i / 32) 0) (2 ^ (i % 32))) j d ∙ ap (λ b. b || members l j) (sym (apart j i d))

pub inserted : (l : List ℕ) (i : ℕ) → i / 32 < length l → Inserted l i (set l (i / 32) (bit_or (get_or l (i / 32) 0) ((1 * 2 ^ (i % 32)) % 2 ^ 32)))
inserted l i h =
    subst (λ b. Inserted l i (set l (i / 32) (bit_or (get_or l (i / 32) 0) b))) (sym (one_shl (i % 32) 32 (omega arith)))
    (record {
      are = insert_are l i h;
      grows =
          λ out. size_with l (set l (i / 32) (bit_or (get_or l (i / 32) 0) (2 ^ (i % 32)))) i (length-set l (i / 32) (bit_or (get_or l (i / 32) 0) (2 ^ (i % 32)))) h out (insert_are l i h);
    })

-- where nothing is to be put in the word stays
pub inserted_not : (l : List ℕ) (i : ℕ) → set l (i / 32) (bit_or (get_or l (i / 32) 0) ((0 * 2 ^ (i % 32)) % 2 ^ 32)) ≡ l
inserted_not l i = ap (λ (w : ℕ). set l (i / 32) w) stays ∙ set-get_or l (i / 32) 0
  where
    stays : bit_or (get_or l (i / 32) 0) ((0 * 2 ^ (i % 32)) % 2 ^ 32) ≡ get_or l (i / 32) 0
    stays = ap (λ (x : ℕ). bit_or (get_or l (i / 32) 0) (x % 2 ^ 32)) (native.Mathlib.Nat.zero-mul (2 ^ (i % 32))) ∙ Rattle.std.specs.Int.Bits.or_zero_r (get_or l (i / 32) 0)

-- a bit cleared
pub remove_are : (l : List ℕ) (i : ℕ) → i / 32 < length l
    → (j : ℕ) → members (set l (i / 32) (bit_and (get_or l (i / 32) 0) (2 ^ 32 - 1 - 2 ^ (i % 32)))) j ≡ (not (eqb j i) && members l j)
unfolding members
remove_are l i h j = go (cases_eq (j / 32) (i / 32))
  where
    go : (j / 32 ≡ i / 32) ⊎ (j / 32 ≡ i / 32 → ⊥)
        → members (set l (i / 32) (bit_and (get_or l (i / 32) 0) (2 ^ 32 - 1 - 2 ^ (i % 32)))) j ≡ (not (eqb j i) && members l j)
    go (inl e) =
        members_here l (i / 32) (bit_and (get_or l (i / 32) 0) (2 ^ 32 - 1 - 2 ^ (i % 32))) j h e
        ∙ digit_and (get_or l (i / 32) 0) (2 ^ 32 - 1 - 2 ^ (i % 32)) (j % 32)
        ∙ and_swap (digit (get_or l (i / 32) 0) (j % 32)) (digit (2 ^ 32 - 1 - 2 ^ (i % 32)) (j % 32))
        ∙ ap₂ (λ a k. a && digit (get_or l k 0) (j % 32))
        (digit_not 32 (2 ^ (i % 32)) (j % 32) (pow_below (i % 32) 32 (omega arith)) (omega arith)
        ∙ ap not (digit_power (i % 32) (j % 32) ∙ same_rest j i e))
        (sym e)
    go (inr d) =
        members_there l (i / 32) (bit_and (get_or l (i / 32) 0) (2 ^ 32 - 1 - 2 ^ (i % 32))) j d
        ∙ ap (λ b. not b && members l j) (sym (apart j i d))

pub removed : (l : List ℕ) (i : ℕ) → i / 32 < length l
    → Removed l i (set l (i / 32) (bit_and (get_or l (i / 32) 0) (4294967295 - (1 * 2 ^ (i % 32)) % 2 ^ 32)))
removed l i h =
    subst (λ b. Removed l i (set l (i / 32) (bit_and (get_or l (i / 32) 0) (4294967295 - b)))) (sym (one_shl (i % 32) 32 (omega arith)))
    (record {
      are = remove_are l i h;
      shrinks =
          λ is. size_without l (set l (i / 32) (bit_and (get_or l (i / 32) 0) (2 ^ 32 - 1 - 2 ^ (i % 32)))) i
          (length-set l (i / 32) (bit_and (get_or l (i / 32) 0) (2 ^ 32 - 1 - 2 ^ (i % 32)))) is (remove_are l i h);
    })

-- where nothing is to be taken out the word stays
pub removed_not : (l : List ℕ) (i : ℕ) → get_or l (i / 32) 0 < 2 ^ 32 → set l (i / 32) (bit_and (get_or l (i / 32) 0) (4294967295 - (0 * 2 ^ (i % 32)) % 2 ^ 32)) ≡ l
removed_not l i fits = ap (λ (w : ℕ). set l (i / 32) w) stays ∙ set-get_or l (i / 32) 0
  where
    word : ℕ
    word = get_or l (i / 32) 0

    none : (0 * 2 ^ (i % 32)) % 2 ^ 32 ≡ 0
    none = ap (λ (x : ℕ). x % 2 ^ 32) (native.Mathlib.Nat.zero-mul (2 ^ (i % 32)))

    stays : bit_and word (4294967295 - (0 * 2 ^ (i % 32)) % 2 ^ 32) ≡ word
    stays = ap (λ (x : ℕ). bit_and word (4294967295 - x)) none ∙ Rattle.std.proofs.lemmas.Nat.and_mask word 32 ∙ (omega (arith, fits))

-- the lowest bit of a word shifted, as a test
pub has_is : (l : List ℕ) (i : ℕ) → eqb (bit_and (get_or l (i / 32) 0 / 2 ^ (i % 32)) 1) 1 ≡ members l i
unfolding members digit
has_is l i = ap (λ x. eqb x 1) (Rattle.std.proofs.lemmas.Nat.and_mask (get_or l (i / 32) 0 / 2 ^ (i % 32)) 1)

-- a part of a set is no larger, and smaller where a member is missing
pub size_sub : (l r : List ℕ) → length l ≡ length r → ((j : ℕ) → members l j ≡ true → members r j ≡ true) → size l ≤ size r
unfolding size
size_sub l r e s =
    let a : count (members l) (32 * length l) ≡ count (members l) (32 * length r) = ap (λ n. count (members l) (32 * n)) e in
    omega (arith, count_sub (members l) (members r) (32 * length r) (λ j h. s j))

pub size_sub_lt : (l r : List ℕ) (i : ℕ) → length l ≡ length r → ((j : ℕ) → members l j ≡ true → members r j ≡ true)
    → members r i ≡ true → members l i ≡ false → size l < size r
unfolding size
size_sub_lt l r i e s is out =
    let a : count (members l) (32 * length l) ≡ count (members l) (32 * length r) = ap (λ n. count (members l) (32 * n)) e in
    omega (arith, count_sub_lt (members l) (members r) i (32 * length r) (λ j h. s j) (members_below r i is) is out)

-- words that are all 0 hold no member
zeros : (n i : ℕ) → ◌≡◌ {A = ℕ} (get_or (replicate n 0) i 0) 0
zeros zero i = refl
zeros (suc n) zero = refl
zeros (suc n) (suc i) = zeros n i

pub size_cleared : (l : List ℕ) (n : ℕ) → l ≡ replicate n 0 → size l ≡ 0
unfolding members
size_cleared l n e = none_size l (λ j. ap (λ w. digit w (j % 32)) (ap (λ (x : List ℕ). get_or x (j / 32) 0) e ∙ zeros n (j / 32)) ∙ digit_none (j % 32))
