-- Counts and their running sums.
use Rattle.std.proofs.Common.{◌≡◌, ℕ, suc, ◌+◌, ◌^◌, ◌<◌, ◌≤◌, ◌⊎◌, List, length, get_or, take, set, sym, refl, ap, ◌∙◌, inl, inr, add-one, arith}
use Rattle.std.proofs.lemmas.List.{get_or-set_same, get_or-set_other}
use Rattle.std.proofs.lemmas.Bool.{cases_eq}
use Rattle.endless.specs.Graph.{times, upto, Counts}
use Rattle.endless.proofs.CountLaws.{one_itself, one_other}
use Rattle.endless.proofs.Sources.{times_more, times_here, upto_zero, upto_suc, upto_mono}

-- ---- one more counted

pub counts_more : (counts targets : List ℕ) (k : ℕ) (now after : List ℕ) → Counts counts (take k targets) now → k < length targets
    → get_or targets k 0 < length now → (many : ℕ) → many ≡ get_or now (get_or targets k 0) 0 → after ≡ set now (get_or targets k 0) (many + 1)
    → Counts counts (take (k + 1) targets) after
counts_more counts targets k now after inv h inside many is e m = ap (λ l. get_or l m 0) e ∙ go (cases_eq (get_or targets k 0) m)
  where
    go : (get_or targets k 0 ≡ m) ⊎ (get_or targets k 0 ≡ m → ⊥) → get_or (set now (get_or targets k 0) (many + 1)) m 0 ≡ get_or counts m 0 + times m (take (k + 1) targets)
    go (inl d) =
        let was : get_or now (get_or targets k 0) 0 ≡ get_or now m 0 = ap (λ j. get_or now j 0) d in
        ap (λ j. get_or (set now (get_or targets k 0) (many + 1)) j 0) (sym d) ∙ get_or-set_same now (get_or targets k 0) (many + 1) 0 inside
        ∙ (omega (arith, inv m, times_more m targets k h, one_itself (get_or targets k 0) m d))
    go (inr d) =
        get_or-set_other now (get_or targets k 0) m (many + 1) 0 (λ e. d (sym e))
        ∙ (omega (arith, inv m, times_more m targets k h, one_other (get_or targets k 0) m d))

pub counts_fits : (counts targets : List ℕ) (k : ℕ) (now : List ℕ) → Counts counts (take k targets) now → k < length targets
    → ((m : ℕ) → get_or counts m 0 + times m targets < 2 ^ 64) → get_or now (get_or targets k 0) 0 + 1 < 2 ^ 64
counts_fits counts targets k now inv h fits =
    omega (arith, inv (get_or targets k 0), times_here targets k h, fits (get_or targets k 0))

-- ---- the first i counts summed up

pub record Summed (counts : List ℕ) (i : ℕ) (sums : List ℕ) (sum : ℕ) : Type 0 where
  pub total : sum ≡ upto (λ j. get_or counts j 0) i
  pub done : (m : ℕ) → m < i → get_or sums m 0 ≡ upto (λ j. get_or counts j 0) (suc m)
  pub rest : (m : ℕ) → i ≤ m → get_or sums m 0 ≡ get_or counts m 0

pub summed_start : (counts : List ℕ) → Summed counts 0 counts 0
summed_start counts = record { total = sym (upto_zero (λ j. get_or counts j 0)); done = λ m h. absurd (omega arith); rest = λ m h. refl }

module _ (counts : List ℕ) (i : ℕ) (sums : List ℕ) (sum : ℕ) (inv : Summed counts i sums sum) where
  pub summed_next : sum + get_or sums i 0 ≡ upto (λ j. get_or counts j 0) (suc i)
  summed_next = omega (arith, inv.total, inv.rest i (let h : i ≤ i = omega arith in h), upto_suc (λ j. get_or counts j 0) i)

  pub summed_fits : (n : ℕ) → i < n → upto (λ j. get_or counts j 0) n < 2 ^ 64 → sum + get_or sums i 0 < 2 ^ 64
  summed_fits n h fits = omega (arith, summed_next, upto_mono (λ j. get_or counts j 0) (suc i) n h)

  pub summed_more : (after : List ℕ) (x : ℕ) → i < length sums → x ≡ get_or sums i 0 → after ≡ set sums i (sum + x) → Summed counts (i + 1) after (sum + x)
  summed_more after x h is e = record {
    total = ap (λ y. sum + y) is ∙ summed_next ∙ ap (upto (λ j. get_or counts j 0)) (sym (add-one i));
    done = λ m l. ap (λ xs. get_or xs m 0) e ∙ done m l (cases_eq m i);
    rest = λ m l. ap (λ xs. get_or xs m 0) e ∙ get_or-set_other sums i m (sum + x) 0 (λ s. omega arith) ∙ inv.rest m (omega arith);
  }
    where
      done : (m : ℕ) → m < i + 1 → (m ≡ i) ⊎ (m ≡ i → ⊥) → get_or (set sums i (sum + x)) m 0 ≡ upto (λ j. get_or counts j 0) (suc m)
      done m l (inl d) =
          ap (λ j. get_or (set sums i (sum + x)) j 0) d ∙ get_or-set_same sums i (sum + x) 0 h ∙ ap (λ y. sum + y) is ∙ summed_next
          ∙ ap (λ j. upto (λ k. get_or counts k 0) (suc j)) (sym d)
      done m l (inr d) = get_or-set_other sums i m (sum + x) 0 d ∙ inv.done m (omega arith)
