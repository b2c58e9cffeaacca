-- A place put at the end of a queue: what stands there.
use Rattle.std.proofs.Common.{◌≡◌, ℕ, ◌+◌, ◌<◌, ◌≤◌, ◌⊎◌, List, length, get_or, set, sym, ap, ◌∙◌, subst, inl, inr, arith}
use Rattle.std.proofs.lemmas.List.{get_or-set_same, get_or-set_other}
use Rattle.std.proofs.lemmas.Bool.{cases_lt}
use Rattle.endless.specs.Pulling.{Passed}

module _ (queue : List ℕ) {queue' : List ℕ} (tail place : ℕ) (q : queue' ≡ set queue tail place) where
  -- what stood before it stands there still
  pub pushed_front : (j : ℕ) → j < tail → get_or queue' j 0 ≡ get_or queue j 0
  pushed_front j h = ap (λ (l : List ℕ). get_or l j 0) q ∙ get_or-set_other queue tail j place 0 (omega arith)

  pub pushed_before : (head n : ℕ) → head ≤ tail → Passed queue' head n → Passed queue head n
  pushed_before head n h p = (p.0, p.1, sym (pushed_front p.0 (omega (arith, p.1))) ∙ p.2)

  module _ (room : tail < length queue) where
    pub pushed_last : get_or queue' tail 0 ≡ place
    pushed_last = ap (λ (l : List ℕ). get_or l tail 0) q ∙ get_or-set_same queue tail place 0 room

    -- what is so of those before it, and of it, is so of all
    pub pushed_each : (P : ℕ → Type 0) → ((j : ℕ) → j < tail → P (get_or queue j 0)) → P place → (j : ℕ) → j < tail + 1 → P (get_or queue' j 0)
    pushed_each P all one j h = go (cases_lt j tail)
      where
        go : (j < tail) ⊎ (tail ≤ j) → P (get_or queue' j 0)
        go (inl l) = subst P (sym (pushed_front j l)) (all j l)
        go (inr l) = subst P (sym (ap (λ (i : ℕ). get_or queue' i 0) (let e : j ≡ tail = omega arith in e) ∙ pushed_last)) one

    -- it is passed, and those passed before
    pub pushed_passed : (n : ℕ) → (n ≡ place) ⊎ Passed queue tail n → Passed queue' (tail + 1) n
    pushed_passed n (inl e) = (tail, omega arith, pushed_last ∙ sym e)
    pushed_passed n (inr t) = (t.0, omega (arith, t.1), pushed_front t.0 t.1 ∙ t.2)
