-- A list that is filled with 0.
use Rattle.std.proofs.Common.{◌≡◌, ℕ, ◌<◌, ◌≤◌, ◌⊎◌, List, get_or, replicate, sym, subst, inl, inr, arith}
use Rattle.std.proofs.lemmas.List.{get_or-replicate, get_or_past, length-replicate}
use Rattle.std.proofs.lemmas.Bool.{cases_lt}

-- what stands at an index, as a number
abbrev word : List ℕ → ℕ → ℕ
word l k = get_or l k 0

abbrev nought : ℕ
nought = 0

pub zero_at : {l : List ℕ} (n : ℕ) → l ≡ replicate n nought → (k : ℕ) → word l k ≡ nought
zero_at n e k = subst (λ (l : List ℕ). word l k ≡ nought) (sym e) (go (cases_lt k n))
  where
    go : (k < n) ⊎ (n ≤ k) → word (replicate n nought) k ≡ nought
    go (inl h) = get_or-replicate n k nought 0 h
    go (inr h) = get_or_past (replicate n nought) k 0 (omega (arith, length-replicate n nought))
