-- Rounds along which ranks fall.
use Rattle.std.proofs.Common.{◌≡◌, ℕ, zero, suc, ◌+◌, ◌-◌, ◌<◌, ◌≤◌, ◌⊎◌, List, get_or, sym, ap, ◌∙◌, subst, inl, inr, le_refl, eq-or-lt_of_le, arith}
use Rattle.allplans.specs.declared.game.Place.{Place}
use Rattle.allplans.specs.Claims.{plan}
use Rattle.allplans.specs.Rounds.{weight, goes_to, Among, Inside, Round, FallsBy}

-- numbers that never rise
pub never_rise : (g : ℕ → ℕ) (n : ℕ) → ((i : ℕ) → i ≤ n → g (suc i) ≤ g i) → (m i j : ℕ) → j ≡ i + m → j ≤ suc n → g j ≤ g i
never_rise g n falls zero i j e h = let q : j ≡ i = omega arith in subst (λ (x : ℕ). g j ≤ g x) q (le_refl (g j))
never_rise g n falls (suc m) i zero e h = absurd (omega arith)
never_rise g n falls (suc m) i (suc j) e h = let a : g (suc j) ≤ g j = falls j (omega arith) in let b : g j ≤ g i = never_rise g n falls m i j (omega arith) (omega arith) in omega arith

-- a sequence that never rises, falls once and comes back
pub no_return : (g : ℕ → ℕ) (n i : ℕ) → ((j : ℕ) → j ≤ n → g (suc j) ≤ g j) → i ≤ n → g (suc i) < g i → g (suc n) ≡ g 0 → ⊥
no_return g n i falls h less back =
    let a : g (suc n) ≤ g (suc i) = never_rise g n falls (n - i) (suc i) (suc n) (omega arith) (omega arith) in
    let b : g i ≤ g 0 = never_rise g n falls i 0 i (omega arith) (omega arith) in
    omega arith

-- no round comes by a place of weight k if ranks never rise and fall there
pub no_round : (ps : List Place) (winners plan ranks : List ℕ) (side k : ℕ) → ((v : ℕ) → Inside ps winners side k v → (u : ℕ) → Among u (goes_to ps plan side v) → Inside ps winners side k u → FallsBy ranks v u (weight ps v ≡ k)) → (f : ℕ → ℕ) (n : ℕ) → Round ps winners plan side k f n → ⊥
no_round ps winners plan ranks side k falls f n r =
    no_return (λ i. get_or ranks (f i) 0) n r.heavy.0 (λ j h. (fall j h).never_rises) r.heavy.1 ((fall r.heavy.0 r.heavy.1).falls r.heavy.2) (ap (λ (v : ℕ). get_or ranks v 0) r.back)
  where
    next : (i : ℕ) → i ≤ n → (i ≡ n) ⊎ (i < n) → Inside ps winners side k (f (suc i))
    next i h (inr l) = r.inside (suc i) (omega arith)
    next i h (inl e) = subst (λ (v : ℕ). Inside ps winners side k v) (sym (ap (λ (j : ℕ). f (suc j)) e ∙ r.back)) (r.inside 0 (omega arith))

    fall : (i : ℕ) → i ≤ n → FallsBy ranks (f i) (f (suc i)) (weight ps (f i) ≡ k)
    fall i h = falls (f i) (r.inside i h) (f (suc i)) (r.goes i h) (next i h (eq-or-lt_of_le h))
