-- An attractor is the least set of its kind, and from it and from nowhere else the targets are come to.
use Rattle.std.proofs.Common.{◌≡◌, ℕ, zero, suc, ◌<◌, ◌≤◌, ◌⊎◌, List, sym, subst, inl, inr, arith}
use Rattle.std.proofs.lemmas.Bool.{cases_eq}
use Rattle.endless.specs.Games.{Game, Reads, whose, May, Play, Plays, ByPlan, other}
use Rattle.endless.specs.Sets.{Set, In, Out}
use Rattle.endless.specs.Attractors.{Attractor, Least, Brings, KeepsOut, AttractorLaws}
use Rattle.endless.proofs.Places.{side_below, is_other, not_other}
use Rattle.endless.proofs.Sets.{in_or_out}

-- by the rank: what is brought about later leans on what was earlier
pub attractor_least : {g : Game} {U : Set} {w : ℕ} {D A : Set} {plan rank : ℕ → ℕ} → Attractor g U w D A plan rank → Least g U w D A
attractor_least {g} {U} {w} {D} {A} {plan} {rank} att B targets closed n x = upto (suc (rank n)) n (omega arith) x
  where
    place : (n : ℕ) → ((m : ℕ) → rank m < rank n → In A m → In B m) → In A n → In D n ⊎ Out D n → (whose g n ≡ w) ⊎ (whose g n ≡ w → ⊥) → In B n
    place n ih x (inl d) e = targets n d
    place n ih x (inr d) (inl e) = let t = att.own n x d e in closed.own n (plan n) (att.within n x) e t.0 (ih (plan n) t.2 t.1)
    place n ih x (inr d) (inr e) = closed.forced n (att.within n x) e (λ m a u. let t = att.forced n m x d e a u in ih m t.1 t.0)

    upto : (k : ℕ) (n : ℕ) → rank n < k → In A n → In B n
    upto zero n l x = absurd (omega arith)
    upto (suc k) n l x = place n (λ m h y. upto k m (omega arith) y) x (in_or_out D n) (cases_eq (whose g n) w)

-- in plays: the rank falls at each move until a target is come to
pub attractor_brings : {g : Game} {U : Set} {w : ℕ} {D A : Set} {plan rank : ℕ → ℕ} → Attractor g U w D A plan rank → Brings g U w D A plan rank
attractor_brings {g} {U} {w} {D} {A} {plan} {rank} att f u p b x = upto (suc (rank (f 0))) f u p b (omega arith) x
  where
    next : (f : Play) → ((i : ℕ) → In U (f i)) → Plays g f → ByPlan g w plan f → In A (f 0) → Out D (f 0) → (whose g (f 0) ≡ w) ⊎ (whose g (f 0) ≡ w → ⊥) → In A (f 1) × (rank (f 1) < rank (f 0))
    next f u p b x d (inl e) = let t = att.own (f 0) x d e in subst (λ (m : ℕ). In A m × (rank m < rank (f 0))) (sym (b 0 e)) (t.1, t.2)
    next f u p b x d (inr e) = att.forced (f 0) (f 1) x d e (p 0) (u 1)

    upto : (k : ℕ) (f : Play) → ((i : ℕ) → In U (f i)) → Plays g f → ByPlan g w plan f → rank (f 0) < k → In A (f 0) → (i : ℕ) × (i ≤ rank (f 0)) × In D (f i)
    upto zero f u p b l x = absurd (omega arith)
    upto (suc k) f u p b l x = go (in_or_out D (f 0)) (upto k (λ i. f (suc i)) (λ i. u (suc i)) (λ i. p (suc i)) (λ i. b (suc i)))
      where
        go : In D (f 0) ⊎ Out D (f 0) → (rank (f 1) < k → In A (f 1) → (i : ℕ) × (i ≤ rank (f 1)) × In D (f (suc i))) → (i : ℕ) × (i ≤ rank (f 0)) × In D (f i)
        go (inl d) ih = (0, omega arith, d)
        go (inr d) ih =
            let t = next f u p b x d (cases_eq (whose g (f 0)) w) in
            let c = ih (omega (arith, t.1)) t.0 in
            (suc c.0, omega (arith, c.1, t.1), c.2)

-- outside it the other side goes past, by any plan that stays outside
pub attractor_past : {s : List ℕ} {g : Game} {U : Set} {w : ℕ} {D A : Set} {plan rank : ℕ → ℕ} → Reads s g → w < 2 → Attractor g U w D A plan rank → (reply : ℕ → ℕ) → ((n : ℕ) → In U n → Out A n → whose g n ≡ other w → Out A (reply n)) →
    (f : Play) → ((i : ℕ) → In U (f i)) → Plays g f → ByPlan g (other w) reply f → Out A (f 0) → (i : ℕ) → Out A (f i)
attractor_past r l att reply past f u p b x zero = x
attractor_past {s} {g} {U} {w} {D} {A} r l att reply past f u p b x (suc i) = go (cases_eq (whose g (f i)) w) (attractor_past r l att reply past f u p b x i)
  where
    go : (whose g (f i) ≡ w) ⊎ (whose g (f i) ≡ w → ⊥) → Out A (f i) → Out A (f (suc i))
    go (inl e) y = att.no_way_in (f i) (f (suc i)) (u i) y e (p i)
    go (inr d) y =
        let e = is_other w (whose g (f i)) l (side_below r (f i)) d in
        subst (λ (m : ℕ). Out A m) (sym (b i e)) (past (f i) (u i) y e)

-- and there is one
pub attractor_keeps_out : {s : List ℕ} {g : Game} {U : Set} {w : ℕ} {D A : Set} {plan rank : ℕ → ℕ} → Reads s g → w < 2 → Attractor g U w D A plan rank → KeepsOut g U w A
attractor_keeps_out {s} {g} {U} {w} {D} {A} {plan} {rank} r l att = (λ n. (past n).0, legal, attractor_past r l att (λ n. (past n).0) (λ n u a e. ((past n).1 u a e).2))
  where
    -- a move past A where there has to be one
    Past : ℕ → Type 0
    Past n = (m : ℕ) × (In U n → Out A n → whose g n ≡ other w → May g n m × In U m × Out A m)

    past : (n : ℕ) → Past n
    past n = go (in_or_out U n) (in_or_out A n) (cases_eq (whose g n) w)
      where
        go : In U n ⊎ Out U n → In A n ⊎ Out A n → (whose g n ≡ w) ⊎ (whose g n ≡ w → ⊥) → Past n
        go (inl u) (inr a) (inr e) = let t = att.way_past n u a e in (t.0, λ u a e. (t.1, t.2, t.3))
        go (inr u) a e = (0, λ x. absurd (u x))
        go (inl u) (inl a) e = (0, λ x y. absurd (y a))
        go (inl u) (inr a) (inl e) = (0, λ x y d. absurd (not_other w (whose g n) l e d))

    legal : (n : ℕ) → In U n → Out A n → whose g n ≡ other w → May g n (past n).0 × In U (past n).0
    legal n u a e = let t = (past n).1 u a e in (t.0, t.1)

pub attractor_laws : AttractorLaws
attractor_laws = record {
  least = λ g U w D A plan rank att. attractor_least att;
  brings = λ g U w D A plan rank att. attractor_brings att;
  keeps_out = λ s g U w D A plan rank r l att. attractor_keeps_out r l att;
}

-- the same plan beyond the targets, told otherwise
pub attractor_own : {g : Game} {U : Set} {w : ℕ} {D A : Set} {τ rank : ℕ → ℕ} (π : ℕ → ℕ) → ((n : ℕ) → In A n → Out D n → π n ≡ τ n) → Attractor g U w D A τ rank → Attractor g U w D A π rank
attractor_own {g} {U} {w} {D} {A} {τ} {rank} π same att = record {
  within = att.within;
  targets = att.targets;
  own = λ n x d e. subst (λ (m : ℕ). May g n m × In A m × (rank m < rank n)) (sym (same n x d)) (att.own n x d e);
  forced = att.forced;
  no_way_in = att.no_way_in;
  way_past = att.way_past;
}
