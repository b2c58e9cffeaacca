-- Among a list: at some index of it.
use Rattle.std.proofs.Common.{◌≡◌, ℕ, zero, suc, ◌<◌, List, [], ◌∷◌, length, get_or, refl, arith}
use Rattle.endless.specs.Games.{Among, first, later}

pub among_at : (m : ℕ) (l : List ℕ) → Among m l → (k : ℕ) × (k < length l) × (get_or l k 0 ≡ m)
among_at m [] a = elim a [ ]
among_at m (x ∷ xs) first = (0, omega arith, refl)
among_at m (x ∷ xs) (later a) = let t = among_at m xs a in (suc t.0, omega (arith, t.1), t.2)

pub at_among : (l : List ℕ) (k : ℕ) → k < length l → Among (get_or l k 0) l
at_among [] k h = absurd (omega arith)
at_among (x ∷ xs) zero h = first
at_among (x ∷ xs) (suc k) h = later (at_among xs k (omega arith))

pub none_among : (m : ℕ) (l : List ℕ) → l ≡ [] → Among m l → ⊥
none_among m [] e a = elim a [ ]
none_among m (x ∷ xs) e a = let z : ◌≡◌ {A = ℕ} 0 1 = cc in omega arith

pub only_among : (m x : ℕ) → Among m (x ∷ []) → m ≡ x
only_among m x first = refl
only_among m x (later a) = elim a [ ]

pub among_rest : {m x : ℕ} {xs : List ℕ} → (m ≡ x → ⊥) → Among m (x ∷ xs) → Among m xs
among_rest d first = absurd (d refl)
among_rest d (later a) = a
