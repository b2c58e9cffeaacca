-- Searches below a bound; and of more moments than there are places, two are at the same place.
use Rattle.std.proofs.Common.{◌≡◌, ℕ, zero, suc, ◌<◌, ◌≤◌, cond, eqb, ◌⊎◌, inl, inr, arith}
use Rattle.std.proofs.lemmas.Bool.{cases_eq}
use Rattle.std.proofs.lemmas.Bool.Decides.{nat_tests}

-- what is so below a bound and at it
pub below_suc : (P : ℕ → Type 0) (b : ℕ) → ((n : ℕ) → n < b → P n) → P b → (n : ℕ) → n < suc b → P n
below_suc P b h x n l = go (cases_eq n b)
  where
    go : (n ≡ b) ⊎ (n ≡ b → ⊥) → P n
    go (inl e) = rw e x
    go (inr e) = h n (omega arith)

-- a search below a bound: one that is so, or none is
pub search_below : {P Q : ℕ → Type 0} → ((n : ℕ) → P n ⊎ Q n) → (b : ℕ) → ((n : ℕ) × (n < b) × P n) ⊎ ((n : ℕ) → n < b → Q n)
search_below {P} {Q} d zero = inr (λ n h. absurd (omega arith))
search_below {P} {Q} d (suc b) = more (search_below d b) (d b)
  where
    more : ((n : ℕ) × (n < b) × P n) ⊎ ((n : ℕ) → n < b → Q n) → P b ⊎ Q b → ((n : ℕ) × (n < suc b) × P n) ⊎ ((n : ℕ) → n < suc b → Q n)
    more (inl t) x = inl (t.0, omega arith, t.2)
    more (inr none) (inl p) = inl (b, omega arith, p)
    more (inr none) (inr q) = inr (below_suc Q b none q)

-- two moments up to the last one, at one place
abbrev Twice : ℕ → (ℕ → ℕ) → Type 0
Twice n f = (i : ℕ) × (j : ℕ) × (i < j) × (j ≤ n) × (f i ≡ f j)

pub pigeonhole : (n : ℕ) (f : ℕ → ℕ) → ((i : ℕ) → i ≤ n → f i < n) → (i : ℕ) × (j : ℕ) × (i < j) × (j ≤ n) × (f i ≡ f j)
pigeonhole zero f h = absurd (omega (arith, h 0 (omega arith)))
pigeonhole (suc n) f h = step (pigeonhole n) (search_below {P = λ i. f i ≡ f (suc n)} {Q = λ i. f i ≡ f (suc n) → ⊥} (λ i. cases_eq (f i) (f (suc n))) (suc n))
  where
    -- the value that is too large gives way to the last one
    e : ℕ → ℕ
    e i = cond (eqb (f i) n) (f (suc n)) (f i)

    less : ((i : ℕ) → i < suc n → f i ≡ f (suc n) → ⊥) → (i : ℕ) → i ≤ n → e i < n
    less d i l = let a = h i (omega arith) in let b = h (suc n) (omega arith) in let c = d i (omega arith) in grind (arith, nat_tests)

    step : ((f : ℕ → ℕ) → ((i : ℕ) → i ≤ n → f i < n) → Twice n f) → ((i : ℕ) × (i < suc n) × (f i ≡ f (suc n))) ⊎ ((i : ℕ) → i < suc n → f i ≡ f (suc n) → ⊥) → Twice (suc n) f
    step ih (inl t) = (t.0, suc n, omega arith, omega arith, t.2)
    step ih (inr d) =
        let t = ih e (less d) in
        let c = d t.0 (omega arith) in
        let c' = d t.1 (omega arith) in
        let s : e t.0 ≡ e t.1 = t.4 in
        (t.0, t.1, t.2, omega arith, grind (arith, nat_tests))
