-- How many of a list are not in a set.
use Rattle.std.proofs.Common.{◌≡◌, ℕ, ◌+◌, ◌<◌, Bool, true, false, cond, ◌||◌, T, eqb, ◌⊎◌, List, [], ◌∷◌, length, sym, refl, ap, ◌∙◌, subst, inl, inr, arith}
use Rattle.std.proofs.lemmas.Bool.{cases_eq, cases_Bool, eq-eqb, ne_eqb}
use Rattle.endless.specs.Games.{Among, first, later}
use Rattle.endless.specs.Sets.{Set, In}
use Rattle.endless.specs.Graph.{times}
use Rattle.endless.proofs.CountLaws.{one_itself, one_other}
use Rattle.distance.specs.Spreading.{missing}

abbrev none_if : Bool → ℕ
none_if b = cond b 0 1

abbrev pub nothing : Set
nothing m = false

pub missing_all : (ms : List ℕ) → missing nothing ms ≡ length ms
missing_all [] = refl
missing_all (m ∷ ms) = let a : none_if (nothing m) ≡ 1 = refl in omega (arith, missing_all ms)

-- one more in the set
abbrev pub together : Set → ℕ → Set
together P to m = eqb m to || P m

pub missing_less : (P : Set) (to : ℕ) (ms : List ℕ) → P to ≡ false → missing (together P to) ms + times to ms ≡ missing P ms
missing_less P to [] e = refl
missing_less P to (m ∷ ms) e = go (missing_less P to ms e) (cases_eq m to)
  where
    go : missing (together P to) ms + times to ms ≡ missing P ms → (m ≡ to) ⊎ (m ≡ to → ⊥) → missing (together P to) (m ∷ ms) + times to (m ∷ ms) ≡ missing P (m ∷ ms)
    go ih (inl d) =
        let b : none_if (together P to m) ≡ 0 = ap (λ (x : Bool). none_if (x || P m)) (eq-eqb m to d) in
        let c : none_if (P m) ≡ 1 = ap none_if (ap P d ∙ e) in
        omega (arith, one_itself m to d)
    go ih (inr d) =
        let b : none_if (together P to m) ≡ none_if (P m) = ap (λ (x : Bool). none_if (x || P m)) (ne_eqb m to d) in
        omega (arith, one_other m to d)

pub missing_none : (P : Set) (ms : List ℕ) → missing P ms ≡ 0 → (m : ℕ) → Among m ms → In P m
missing_none P [] e m a = elim a [ ]
missing_none P (x ∷ ms) e m first = go (cases_Bool (P m))
  where
    go : (P m ≡ true) ⊎ (P m ≡ false) → In P m
    go (inl t) = subst T (sym t) tt
    go (inr f) = let c : none_if (P m) ≡ 1 = ap none_if f in absurd (omega arith)
missing_none P (x ∷ ms) e m (later a) = missing_none P ms (omega arith) m a

pub missing_some : (P : Set) (ms : List ℕ) → 0 < missing P ms → (m : ℕ) × Among m ms × (P m ≡ false)
missing_some P [] h = absurd (omega arith)
missing_some P (x ∷ ms) h = go (missing_some P ms) (cases_Bool (P x))
  where
    go : (0 < missing P ms → (m : ℕ) × Among m ms × (P m ≡ false)) → (P x ≡ true) ⊎ (P x ≡ false) → (m : ℕ) × Among m (x ∷ ms) × (P m ≡ false)
    go ih (inl t) =
        let c : none_if (P x) ≡ 0 = ap none_if t in
        let u = ih (omega arith) in
        (u.0, later u.1, u.2)
    go ih (inr f) = (x, first, f)
