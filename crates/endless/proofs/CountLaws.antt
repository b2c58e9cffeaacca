-- How many of 0 .. n - 1 are in a set.
use Rattle.std.proofs.Common.{◌≡◌, ℕ, zero, suc, ◌+◌, ◌<◌, ◌≤◌, Bool, true, false, cond, not, ◌&&◌, ◌||◌, eqb, ltb, ◌⊎◌, List, [], ◌∷◌, length, get_or, sym, refl, ap, ◌∙◌, ap₂, inl, inr, add-zero, add-suc, add-one, arith}
use Rattle.std.proofs.lemmas.Bool.{cases_eq, cases_lt, both_ways, eq-eqb, ne_eqb, lt-ltb, le-ltb}
use Rattle.std.specs.List.{count_by}
use Rattle.std.proofs.lemmas.List.Sums.{sum_by-cons}
use Rattle.endless.specs.Bits.{count}

-- 1 or 0
abbrev pub one_if : Bool → ℕ
one_if b = cond b 1 0

-- a number counts once for itself, and not for another
pub one_itself : (x m : ℕ) → x ≡ m → one_if (eqb x m) ≡ 1
one_itself x m e = ap one_if (eq-eqb x m e)

pub one_other : (x m : ℕ) → (x ≡ m → ⊥) → one_if (eqb x m) ≡ 0
one_other x m d = ap one_if (ne_eqb x m d)

pub count_zero : (f : ℕ → Bool) → count f 0 ≡ 0
unfolding count
count_zero f = refl

pub count_suc : (f : ℕ → Bool) (n : ℕ) → count f (suc n) ≡ one_if (f n) + count f n
unfolding count
count_suc f n = refl

pub count_same : (f h : ℕ → Bool) (n : ℕ) → ((j : ℕ) → j < n → f j ≡ h j) → count f n ≡ count h n
unfolding count
count_same f h zero e = refl
count_same f h (suc n) e = ap₂ (λ b m. one_if b + m) (e n (omega arith)) (count_same f h n (λ j l. e j (omega arith)))

pub count_front : (f : ℕ → Bool) (n : ℕ) → count f (suc n) ≡ one_if (f 0) + count (λ j. f (suc j)) n
unfolding count
count_front f zero = refl
count_front f (suc n) = let ih = count_front f n in omega arith

pub count_add : (f : ℕ → Bool) (m n : ℕ) → count f (m + n) ≡ count f m + count (λ j. f (m + j)) n
unfolding count
count_add f m zero = ap (count f) (add-zero m) ∙ sym (add-zero (count f m))
count_add f m (suc n) = let ih = count_add f m n in ap (count f) (add-suc m n) ∙ (omega arith)

pub one_le : (b : Bool) → one_if b ≤ 1
one_le true = omega arith
one_le false = omega arith

pub count_le : (f : ℕ → Bool) (n : ℕ) → count f n ≤ n
unfolding count
count_le f zero = omega arith
count_le f (suc n) = omega (arith, one_le (f n), count_le f n)

one_sub : (a b : Bool) → (a ≡ true → b ≡ true) → one_if a ≤ one_if b
one_sub false b h = omega arith
one_sub true true h = omega arith
one_sub true false h = absurd (both_ways false refl (h refl))

-- a part of a set is no larger
pub count_sub : (f h : ℕ → Bool) (n : ℕ) → ((j : ℕ) → j < n → f j ≡ true → h j ≡ true) → count f n ≤ count h n
unfolding count
count_sub f h zero s = omega arith
count_sub f h (suc n) s = omega (arith, one_sub (f n) (h n) (s n (omega arith)), count_sub f h n (λ j l. s j (omega arith)))

-- one more member
pub count_with : (f h : ℕ → Bool) (i n : ℕ) → i < n → f i ≡ false → ((j : ℕ) → h j ≡ (eqb j i || f j)) → count h n ≡ count f n + 1
unfolding count
count_with f h i zero l e are = absurd (omega arith)
count_with f h i (suc n) l e are = go (λ below. count_with f h i n below e are) (cases_eq n i)
  where
    other : (j : ℕ) → (j ≡ i → ⊥) → h j ≡ f j
    other j d = are j ∙ ap (λ b. b || f j) (ne_eqb j i d)

    go : (i < n → count h n ≡ count f n + 1) → (n ≡ i) ⊎ (n ≡ i → ⊥) → count h (suc n) ≡ count f (suc n) + 1
    go rest (inl d) =
        let here : h n ≡ true = are n ∙ ap (λ b. b || f n) (eq-eqb n i d) in
        let was : f n ≡ false = ap f d ∙ e in
        let same : count h n ≡ count f n = count_same h f n (λ j k. other j (λ s. omega arith)) in
        let a : one_if (h n) ≡ 1 = ap one_if here in
        let b : one_if (f n) ≡ 0 = ap one_if was in
        omega arith
    go rest (inr d) =
        let more : count h n ≡ count f n + 1 = rest (omega arith) in
        let a : one_if (h n) ≡ one_if (f n) = ap one_if (other n d) in
        omega arith

back : (f h : ℕ → Bool) (i : ℕ) → f i ≡ true → ((j : ℕ) → h j ≡ (not (eqb j i) && f j)) → (j : ℕ) → f j ≡ (eqb j i || h j)
back f h i e are j = go (cases_eq j i)
  where
    go : (j ≡ i) ⊎ (j ≡ i → ⊥) → f j ≡ (eqb j i || h j)
    go (inl d) = ap f d ∙ e ∙ ap (λ b. b || h j) (sym (eq-eqb j i d))
    go (inr d) = sym (are j ∙ ap (λ b. not b && f j) (ne_eqb j i d)) ∙ ap (λ b. b || h j) (sym (ne_eqb j i d))

-- one member less
pub count_without : (f h : ℕ → Bool) (i n : ℕ) → i < n → f i ≡ true → ((j : ℕ) → h j ≡ (not (eqb j i) && f j)) → count h n + 1 ≡ count f n
count_without f h i n l e are =
    sym (count_with h f i n l (are i ∙ ap (λ b. not b && f i) (eq-eqb i i refl)) (back f h i e are))

-- a part that lacks a member is smaller
pub count_sub_lt : (f h : ℕ → Bool) (i n : ℕ) → ((j : ℕ) → j < n → f j ≡ true → h j ≡ true) → i < n → h i ≡ true → f i ≡ false → count f n < count h n
count_sub_lt f h i n s l is out =
    let less = count_without h (λ j. not (eqb j i) && h j) i n l is (λ j. refl) in
    let part : count f n ≤ count (λ j. not (eqb j i) && h j) n = count_sub f (λ j. not (eqb j i) && h j) n (λ j k t. go j k t (cases_eq j i)) in
    omega arith
  where
    go : (j : ℕ) → j < n → f j ≡ true → (j ≡ i) ⊎ (j ≡ i → ⊥) → (not (eqb j i) && h j) ≡ true
    go j k t (inl e) = absurd (both_ways (f j) (ap f e ∙ out) t)
    go j k t (inr d) = ap (λ b. not b && h j) (ne_eqb j i d) ∙ s j k t

-- no member
pub none_count : (f : ℕ → Bool) (n : ℕ) → ((j : ℕ) → j < n → f j ≡ false) → count f n ≡ 0
unfolding count
none_count f zero h = refl
none_count f (suc n) h =
    let a : one_if (f n) ≡ 0 = ap one_if (h n (omega arith)) in
    let b : count f n ≡ 0 = none_count f n (λ j l. h j (omega arith)) in
    omega arith

pub count_none : (f : ℕ → Bool) (n : ℕ) → count f n ≡ 0 → (j : ℕ) → j < n → f j ≡ false
unfolding count
count_none f zero e j l = absurd (omega arith)
count_none f (suc n) e j l = go (λ z. count_none f n z j) (f n) refl (cases_eq j n)
  where
    go : (count f n ≡ 0 → j < n → f j ≡ false) → (b : Bool) → f n ≡ b → (j ≡ n) ⊎ (j ≡ n → ⊥) → f j ≡ false
    go rest true w d = let a : one_if (f n) ≡ 1 = ap one_if w in absurd (omega arith)
    go rest false w (inl d) = ap f d ∙ w
    go rest false w (inr d) = rest (let a : one_if (f n) ≡ 0 = ap one_if w in omega arith) (omega arith)

-- some member
pub count_some : (f : ℕ → Bool) (n : ℕ) → 0 < count f n → (j : ℕ) × (j < n) × (f j ≡ true)
unfolding count
count_some f zero p = absurd (omega arith)
count_some f (suc n) p = go (f n) refl (λ q. count_some f n q)
  where
    go : (b : Bool) → f n ≡ b → (0 < count f n → (j : ℕ) × (j < n) × (f j ≡ true)) → (j : ℕ) × (j < suc n) × (f j ≡ true)
    go true w rest = (n, omega arith, w)
    go false w rest =
        let a : one_if (f n) ≡ 0 = ap one_if w in
        let t : (j : ℕ) × (j < n) × (f j ≡ true) = rest (omega arith) in (t.0, (let s = t.1 in omega arith), t.2)

pub some_count : (f : ℕ → Bool) (n j : ℕ) → j < n → f j ≡ true → 0 < count f n
some_count f n j l e = go (cases_eq (count f n) 0)
  where
    go : (count f n ≡ 0) ⊎ (count f n ≡ 0 → ⊥) → 0 < count f n
    go (inl z) = absurd (both_ways (f j) (count_none f n z j l) e)
    go (inr d) = omega arith

-- all below m
pub count_below : (m n : ℕ) → m ≤ n → count (λ j. ltb j m) n ≡ m
unfolding count
count_below m zero l = omega arith
count_below m (suc n) l = go (count_below m n) (cases_lt n m)
  where
    full : (k : ℕ) → k ≤ m → count (λ j. ltb j m) k ≡ k
    full zero s = refl
    full (suc k) s =
        let a : one_if (ltb k m) ≡ 1 = ap one_if (lt-ltb k m s) in
        let b : count (λ j. ltb j m) k ≡ k = full k (omega arith) in
        omega arith

    go : (m ≤ n → count (λ j. ltb j m) n ≡ m) → (n < m) ⊎ (m ≤ n) → count (λ j. ltb j m) (suc n) ≡ m
    go rest (inl s) = full (suc n) s ∙ (omega arith)
    go rest (inr s) =
        let a : one_if (ltb n m) ≡ 0 = ap one_if (le-ltb n m s) in
        let b : count (λ j. ltb j m) n ≡ m = rest s in
        omega arith

-- a loop's step
pub count_more : (f : ℕ → Bool) (i : ℕ) → count f (i + 1) ≡ one_if (f i) + count f i
count_more f i = ap (count f) (add-one i) ∙ count_suc f i

pub count_more_yes : (f : ℕ → Bool) (i : ℕ) → f i ≡ true → count f (i + 1) ≡ count f i + 1
count_more_yes f i e = let a : one_if (f i) ≡ 1 = ap one_if e in omega (arith, count_more f i)

-- the elements above 0 of a list
pub counted_by : (l : List ℕ) → count_by (λ x. ltb 0 x) l ≡ count (λ k. ltb 0 (get_or l k 0)) (length l)
counted_by [] = sym (count_zero (λ k. ltb 0 (get_or [] k 0)))
counted_by (x ∷ xs) =
    sum_by-cons (λ y. one_if (ltb 0 y)) x xs ∙ ap (λ n. one_if (ltb 0 x) + n) (counted_by xs)
    ∙ sym (count_front (λ k. ltb 0 (get_or (x ∷ xs) k 0)) (length xs))
