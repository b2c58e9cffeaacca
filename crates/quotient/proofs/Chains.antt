-- Chains of places, each linked to one before it.
use Rattle.std.proofs.Common.{◌≡◌, ℕ, zero, suc, ◌-◌, ◌<◌, ◌≤◌, ◌⊎◌, List, get_or, sym, refl, subst, inl, inr, arith}
use Rattle.quotient.specs.Refining.{Linked, here, next, Descends}

-- who stands in a chain is at its first place, or in what comes behind
pub linked_cases : {links : List ℕ} {x n : ℕ} (k : ℕ) → Linked links x n → x ≡ suc k → (n ≡ k) ⊎ Linked links (get_or links k 0) n
linked_cases k here e = inl (omega arith)
linked_cases {links} {n = n} k (next {k = j} l) e = inr (subst (λ (i : ℕ). Linked links (get_or links i 0) n) (let z : j ≡ k = omega arith in z) l)

pub linked_none : {links : List ℕ} {x n : ℕ} → Linked links x n → x ≡ 0 → ⊥
linked_none here e = omega arith
linked_none (next l) e = omega arith

-- a chain from below a link is the same where the links below it are
pub relink : {links links' : List ℕ} {i : ℕ} → ((k : ℕ) → k < i → get_or links' k 0 ≡ get_or links k 0) → Descends links → {x n : ℕ} → Linked links x n → x ≤ i → Linked links' x n
relink same low here h = here
relink {links} {links'} same low (next {k = k} {n = n} l) h =
    let d = low k in
    next (subst (λ (j : ℕ). Linked links' j n) (sym (same k (omega arith))) (relink same low l (omega arith)))

pub linked_below : {links : List ℕ} {i : ℕ} → Descends links → {x n : ℕ} → Linked links x n → x ≤ i → n < i
linked_below low here h = omega arith
linked_below low (next {k = k} l) h = let d = low k in linked_below low l (omega arith)

-- ---- a chain gone through, at the link x

pub linked_here : {links : List ℕ} (x : ℕ) → (x ≡ 0 → ⊥) → Linked links x (x - 1)
linked_here zero d = absurd (d refl)
linked_here {links} (suc k) d = subst (Linked links (suc k)) (let z : k ≡ suc k - 1 = omega arith in z) here

pub linked_next : {links : List ℕ} (x : ℕ) {n : ℕ} → (x ≡ 0 → ⊥) → Linked links (get_or links (x - 1) 0) n → Linked links x n
linked_next zero d l = absurd (d refl)
linked_next {links} (suc k) {n} d l = next (subst (λ (j : ℕ). Linked links (get_or links j 0) n) (let z : suc k - 1 ≡ k = omega arith in z) l)

pub linked_left : {links : List ℕ} (x : ℕ) {n : ℕ} → (x ≡ 0 → ⊥) → Linked links x n → (n ≡ x - 1) ⊎ Linked links (get_or links (x - 1) 0) n
linked_left zero d l = absurd (d refl)
linked_left {links} (suc k) {n} d l = subst (λ (j : ℕ). (n ≡ j) ⊎ Linked links (get_or links j 0) n) (let z : k ≡ suc k - 1 = omega arith in z) (linked_cases k l refl)

-- what stands in the chain, and is not at its first place, stands behind
pub left_behind : {links : List ℕ} (P : ℕ → Type 0) (x : ℕ) {n : ℕ} → (x ≡ 0 → ⊥) → (P (x - 1) → ⊥) → P n → Linked links x n → Linked links (get_or links (x - 1) 0) n
left_behind {links} P x {n} d not p l = go (linked_left x d l)
  where
    go : (n ≡ x - 1) ⊎ Linked links (get_or links (x - 1) 0) n → Linked links (get_or links (x - 1) 0) n
    go (inl e) = absurd (not (subst P e p))
    go (inr y) = y
