-- Priorities are made smaller one after the other, from the least.
use Rattle.std.proofs.Common.{◌≡◌, ℕ, ◌+◌, ◌-◌, ◌%◌, ◌<◌, ◌≤◌, Bool, true, false, cond, eqb, ◌⊎◌, List, [], length, get_or, Some, None, Option, sym, refl, ap, ◌∙◌, subst, inl, inr, ⊎_elim, arith}
use Rattle.std.specs.BTreeMap.{BTreeMap, get, is_at, Updates, IsLowerBound}
use Rattle.std.specs.Map.{lookup}
use Rattle.std.specs.Option.{is_some, IsSome, unwrap_or}
use Rattle.std.specs.Ordering.{nat_cmp}
use Rattle.std.specs.Prelude.{All}
use Rattle.std.proofs.lemmas.List.{length-map, get_or-map, nil_from_length}
use Rattle.std.proofs.lemmas.List.Elements.{All-from_get_or}
use Rattle.std.proofs.lemmas.Map.Keys.{le_from_not_gt}
use Rattle.std.proofs.lemmas.Bool.{cond-true, cond-false, ne_eqb, eq-eqb, cases_lt, cases_eq}
use Rattle.pgsolver.specs.Table.{Finds, IsFullBelow, Locates}
use Rattle.pgsolver.specs.Weights.{Below, Keeps, NoRoom, weight_of, weights_by}
use Rattle.pgsolver.proofs.Looking.{apart_at, was_there}

-- the weight is written where the priority stands, and nowhere else
pub record Marks (ps : List ℕ) (p w : ℕ) (old new : List ℕ) : Type 0 where
  pub long : length new ≡ length old
  pub each : (i : ℕ) → i < length ps → get_or new i 0 ≡ cond (eqb (get_or ps i 0) p) w (get_or old i 0)

-- the priorities below the bound have weights below the lowest that is left
pub record Spread (ps ws : List ℕ) (bound lowest : ℕ) : Type 0 where
  pub long : length ps ≡ length ws
  pub high : lowest ≤ 256
  pub small : (i : ℕ) → i < length ps → get_or ps i 0 < bound → get_or ws i 0 < lowest
  pub odd : (i : ℕ) → i < length ps → get_or ps i 0 < bound → get_or ws i 0 % 2 ≡ get_or ps i 0 % 2
  pub rises : (i j : ℕ) → i < length ps → j < length ps → get_or ps j 0 < bound → get_or ps i 0 < get_or ps j 0 → get_or ws i 0 < get_or ws j 0
  pub same : (i j : ℕ) → i < length ps → j < length ps → get_or ps j 0 < bound → get_or ps i 0 ≡ get_or ps j 0 → get_or ws i 0 ≡ get_or ws j 0
  pub least : (vs : List ℕ) → Keeps ps vs → (i : ℕ) → i < length ps → bound ≤ get_or ps i 0 → lowest ≤ get_or vs i 0

pub spread_none : (ps ws : List ℕ) → length ps ≡ length ws → Spread ps ws 0 0
spread_none ps ws e = record {
  long = e;
  high = omega arith;
  small = λ i l k. absurd (omega arith);
  odd = λ i l k. absurd (omega arith);
  rises = λ i j l k m. absurd (omega arith);
  same = λ i j l k m. absurd (omega arith);
  least = λ vs k i l b. omega arith;
}

next_odd : (low p : ℕ) → (low + (p % 2 + low) % 2) % 2 ≡ p % 2
next_odd low p = omega arith

next_least : (low p v : ℕ) → low ≤ v → v % 2 ≡ p % 2 → low + (p % 2 + low) % 2 ≤ v
next_least low p v l e = omega arith

module _ (ps ws : List ℕ) (bound lowest : ℕ) (s : Spread ps ws bound lowest) (at : ℕ) (here : at < length ps) (from : bound ≤ get_or ps at 0) (first : (i : ℕ) → i < length ps → bound ≤ get_or ps i 0 → get_or ps at 0 ≤ get_or ps i 0) (p w : ℕ) (is : p ≡ get_or ps at 0) (low : w ≡ lowest + (p % 2 + lowest) % 2) where
  under : (vs : List ℕ) → Keeps ps vs → w ≤ get_or vs at 0
  under vs k = rw low (next_least lowest p (get_or vs at 0) (s.least vs k at here from) (k.odd at here ∙ ap (λ x. x % 2) (sym is)))

  pub spread_full : 256 ≤ w → (at < length ps) × ((vs : List ℕ) → Keeps ps vs → 256 ≤ get_or vs at 0)
  spread_full h = (here, λ vs k. omega (arith, h, under vs k))

  module _ (fits : w < 256) (new : List ℕ) (m : Marks ps p w ws new) where
    abbrev Way : ℕ → Type 0
    Way i = ((get_or ps i 0 ≡ p) × (get_or new i 0 ≡ w)) ⊎ ((get_or ps i 0 < bound) × (get_or new i 0 ≡ get_or ws i 0))

    way : (i : ℕ) → i < length ps → get_or ps i 0 < p + 1 → Way i
    way i l h =
        ⊎_elim
        (λ e. inl (e, m.each i l ∙ cond-true _ _ _ (eq-eqb (get_or ps i 0) p e)))
        (λ ne. inr (⊎_elim (λ k. k) (λ k. absurd (ne (omega (arith, first i l k, h, is)))) (cases_lt (get_or ps i 0) bound), m.each i l ∙ cond-false _ _ _ (ne_eqb (get_or ps i 0) p ne)))
        (cases_eq (get_or ps i 0) p)

    over : lowest ≤ w
    over = omega (arith, low)

    small_at : (i : ℕ) → i < length ps → Way i → get_or new i 0 < w + 1
    small_at i l (inl t) = omega (arith, t.1)
    small_at i l (inr t) = omega (arith, t.1, s.small i l t.0, over)

    odd_at : (i : ℕ) → i < length ps → Way i → get_or new i 0 % 2 ≡ get_or ps i 0 % 2
    odd_at i l (inl t) = ap (λ x. x % 2) (t.1 ∙ low) ∙ next_odd lowest p ∙ ap (λ x. x % 2) (sym t.0)
    odd_at i l (inr t) = ap (λ x. x % 2) t.1 ∙ s.odd i l t.0

    rises_at : (i j : ℕ) → i < length ps → j < length ps → Way i → Way j → get_or ps i 0 < get_or ps j 0 → get_or new i 0 < get_or new j 0
    rises_at i j l k (inl a) (inl b) h = absurd (omega (arith, a.0, b.0, h))
    rises_at i j l k (inl a) (inr b) h = absurd (omega (arith, a.0, b.0, h, from, is))
    rises_at i j l k (inr a) (inl b) h = omega (arith, a.1, b.1, s.small i l a.0, over)
    rises_at i j l k (inr a) (inr b) h = omega (arith, a.1, b.1, s.rises i j l k b.0 h)

    same_at : (i j : ℕ) → i < length ps → j < length ps → Way i → Way j → get_or ps i 0 ≡ get_or ps j 0 → get_or new i 0 ≡ get_or new j 0
    same_at i j l k (inl a) (inl b) h = a.1 ∙ sym b.1
    same_at i j l k (inl a) (inr b) h = absurd (omega (arith, a.0, b.0, h, from, is))
    same_at i j l k (inr a) (inl b) h = absurd (omega (arith, a.0, b.0, h, from, is))
    same_at i j l k (inr a) (inr b) h = a.1 ∙ s.same i j l k b.0 h ∙ sym b.1

    pub spread_more : Spread ps new (p + 1) (w + 1)
    spread_more = record {
      long = s.long ∙ sym m.long;
      high = omega (arith, fits);
      small = λ i l h. small_at i l (way i l h);
      odd = λ i l h. odd_at i l (way i l h);
      rises = λ i j l k h r. rises_at i j l k (way i l (omega (arith, h, r))) (way j k h) r;
      same = λ i j l k h e. same_at i j l k (way i l (omega (arith, h, e))) (way j k h) e;
      least = λ vs k i l h. omega (arith, under vs k, k.rises at i here l (omega (arith, h, is)));
    }

pub spread_all : (ps ws : List ℕ) (bound lowest : ℕ) → Spread ps ws bound lowest → ((i : ℕ) → i < length ps → get_or ps i 0 < bound) → Keeps ps ws × Below 256 ws
spread_all ps ws bound lowest s all = (
  record {
    long = sym s.long;
    odd = λ i l. s.odd i l (all i l);
    rises = λ i j l k h. s.rises i j l k (all j k) h;
    same = λ i j l k h. s.same i j l k (all j k) h;
  },
  λ i l. let k : i < length ps = omega (arith, l, s.long) in omega (arith, s.small i k (all i k), s.high),
)

pub keeps_same : (ps : List ℕ) → Keeps ps ps
keeps_same ps = record { long = refl; odd = λ i l. refl; rises = λ i j l k h. h; same = λ i j l k e. e }

some_at : (ps : List ℕ) (i : ℕ) → i < length ps → (o : Option ℕ) → Finds ps (get_or ps i 0) o → IsSome o
some_at ps i l None h = absurd (h i l refl)
some_at ps i l (Some v) h = refl

-- the weights up to some bound are in the map, and where the priorities from there on stand is left, but for those above more than can still get weights
pub record Spreading (ps : List ℕ) (m left : BTreeMap ℕ ℕ) (lowest : ℕ) : Type 0 where
  pub bound : ℕ
  pub spread : Spread ps (weights_by m ps) bound lowest
  pub some : (i : ℕ) → i < length ps → get_or ps i 0 < bound → IsSome (get nat_cmp m (get_or ps i 0))
  pub stands : (x v : ℕ) → get nat_cmp left x ≡ Some v → (bound ≤ x) × (v < length ps) × (get_or ps v 0 ≡ x)
  pub all : (i : ℕ) → i < length ps → bound ≤ get_or ps i 0 → IsSome (get nat_cmp left (get_or ps i 0)) ⊎ IsFullBelow (257 - lowest) left (get_or ps i 0)

pub spreading_first : (ps : List ℕ) (m left : BTreeMap ℕ ℕ) → Locates 257 left ps → Spreading ps m left 0
spreading_first ps m left h = record {
  bound = 0;
  spread = spread_none ps (weights_by m ps) (sym (length-map ps (weight_of m)));
  some = λ i l k. absurd (omega arith);
  stands = λ x v e. ⊎_elim (λ f. let t = subst (Finds ps x) e f in (omega arith, t.0, t.1)) (λ b. absurd (omega (arith, b.1 x (ap is_some e)))) (h x);
  all = λ i l k. ⊎_elim (λ f. inl (some_at ps i l (get nat_cmp left (get_or ps i 0)) f)) (λ b. inr b) (h (get_or ps i 0));
}

module _ (ps : List ℕ) (m left : BTreeMap ℕ ℕ) (lowest : ℕ) (s : Spreading ps m left lowest) (p at : ℕ) (value : get nat_cmp left p ≡ Some at) (low : IsLowerBound nat_cmp left p) (w : ℕ) (is : w ≡ lowest + (p % 2 + lowest) % 2) where
  least : (i : ℕ) → i < length ps → s.bound ≤ get_or ps i 0 → p ≤ get_or ps i 0
  least i l b = ⊎_elim (λ k. le_from_not_gt p (get_or ps i 0) (low (get_or ps i 0) k)) (λ k. omega (arith, k.1 p (ap is_some value))) (s.all i l b)

  here : (s.bound ≤ p) × (at < length ps) × (get_or ps at 0 ≡ p)
  here = s.stands p at value

  from : s.bound ≤ get_or ps at 0
  from = omega (arith, here.0, here.2)

  first : (i : ℕ) → i < length ps → s.bound ≤ get_or ps i 0 → get_or ps at 0 ≤ get_or ps i 0
  first i l b = omega (arith, least i l b, here.2)

  pub spreading_full : 256 ≤ w → NoRoom ps at
  spreading_full h = spread_full ps (weights_by m ps) s.bound lowest s.spread at here.1 from first p w (sym here.2) is h

  module _ (fits : w < 256) (m2 left2 : BTreeMap ℕ ℕ) (new : Updates nat_cmp m m2 p (Some w)) (gone : Updates nat_cmp left left2 p None) (fewer : length left.entries ≡ length left2.entries + 1) where
    updated : (x : ℕ) → weight_of m2 x ≡ cond (eqb x p) w (weight_of m x)
    updated x =
        ⊎_elim
        (λ e. subst (λ y. weight_of m2 y ≡ cond (eqb y p) w (weight_of m y)) e (ap (λ o. unwrap_or o 0) new.1 ∙ sym (cond-true _ _ _ (eq-eqb p p refl))))
        (λ ne. ap (λ o. unwrap_or o 0) (new.2 x (apart_at p x ne)) ∙ sym (cond-false _ _ _ (ne_eqb x p (λ e. ne (sym e)))))
        (cases_eq p x)

    marks : Marks ps p w (weights_by m ps) (weights_by m2 ps)
    marks = record {
      long = length-map ps (weight_of m2) ∙ sym (length-map ps (weight_of m));
      each = λ i l. get_or-map (weight_of m2) ps i 0 0 l ∙ updated (get_or ps i 0) ∙ ap (λ v. cond (eqb (get_or ps i 0) p) w v) (sym (get_or-map (weight_of m) ps i 0 0 l));
    }

    kept : (x : ℕ) → (p ≡ x → ⊥) → IsSome (get nat_cmp m x) → IsSome (get nat_cmp m2 x)
    kept x ne h = subst IsSome (sym (new.2 x (apart_at p x ne))) h

    stands_at : (x v : ℕ) → (p ≡ x) ⊎ (p ≡ x → ⊥) → get nat_cmp left2 x ≡ Some v → (p + 1 ≤ x) × (v < length ps) × (get_or ps v 0 ≡ x)
    stands_at x v (inl e) h = absurd (let z : ◌≡◌ {A = Option ℕ} None (Some v) = sym (subst (λ y. get nat_cmp left2 y ≡ None) e gone.1) ∙ h in cc)
    stands_at x v (inr ne) h =
        let t = s.stands x v (sym (gone.2 x (apart_at p x ne)) ∙ h) in
        (omega (arith, ne, least v t.1 (omega (arith, t.0, t.2)), t.2), t.1, t.2)

    pub spreading_more : Spreading ps m2 left2 (w + 1)
    spreading_more = record {
      bound = p + 1;
      spread = spread_more ps (weights_by m ps) s.bound lowest s.spread at here.1 from first p w (sym here.2) is fits (weights_by m2 ps) marks;
      some = λ i l h. ⊎_elim
          (λ e. subst (λ y. IsSome (get nat_cmp m2 y)) e (ap is_some new.1))
          (λ ne. kept (get_or ps i 0) ne (s.some i l (⊎_elim (λ k. k) (λ k. absurd (ne (omega (arith, least i l k, h)))) (cases_lt (get_or ps i 0) s.bound))))
          (cases_eq p (get_or ps i 0));
      stands = λ x v h. stands_at x v (cases_eq p x) h;
      all = λ i l h. ⊎_elim
          (λ k. inl (subst IsSome (sym (gone.2 (get_or ps i 0) (apart_at p (get_or ps i 0) (λ e. omega (arith, e, h))))) k))
          (λ k. inr (omega (arith, k.0, fewer, is), λ q b. k.1 q (was_there left left2 p gone q b)))
          (s.all i l (omega (arith, here.0, h)));
    }

pub spreading_all : (ps : List ℕ) (m left : BTreeMap ℕ ℕ) (lowest : ℕ) → Spreading ps m left lowest → length left.entries ≡ 0 → All (λ p. IsSome (get nat_cmp m p)) ps × Keeps ps (weights_by m ps) × Below 256 (weights_by m ps)
spreading_all ps m left lowest s e =
    let none : left.entries ≡ [] = nil_from_length left.entries e in
    let under : (i : ℕ) → i < length ps → get_or ps i 0 < s.bound = λ i l. ⊎_elim
    (λ k. k)
    (λ k. absurd (⊎_elim
    (λ b. let z : ◌≡◌ {A = Bool} false true = sym (ap (λ es. is_some (lookup (is_at (nat_cmp (get_or ps i 0))) es)) none) ∙ b in cc)
    (λ b. omega (arith, b.0, e, s.spread.high))
    (s.all i l k)))
    (cases_lt (get_or ps i 0) s.bound) in
    let t = spread_all ps (weights_by m ps) s.bound lowest s.spread under in
    (All-from_get_or (λ p. IsSome (get nat_cmp m p)) ps 0 (λ i l. s.some i l (under i l)), t.0, t.1)
