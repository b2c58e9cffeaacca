-- A map from numbers to where they stand in a list.
use Rattle.std.proofs.Common.{◌≡◌, ℕ, ◌+◌, ◌<◌, ◌≤◌, Bool, true, false, cond, ◌⊎◌, List, [], get_or, Some, None, Option, IfSome, ◌↔◌, length, sym, refl, ap, ◌∙◌, subst, inl, inr, ⊎_elim, arith}
use Rattle.std.specs.BTreeMap.{BTreeMap, get, is_at, Updates, IsUpperBound, ContainsKey}
use Rattle.std.specs.Map.{lookup}
use Rattle.std.specs.Option.{is_some, IsSome, unwrap_or}
use Rattle.std.specs.Ordering.{nat_cmp, is_eq}
use Rattle.std.proofs.lemmas.Bool.Decides.{nat_tests}
use Rattle.std.proofs.lemmas.Bool.{cases_lt, cases_eq}
use Rattle.std.proofs.lemmas.Map.Keys.{ge_from_not_lt}
use Rattle.pgsolver.specs.Table.{IsFullBelow}

-- what a look-up among the first n finds
abbrev pub FoundIn : List ℕ → ℕ → ℕ → Option ℕ → Type 0
FoundIn xs n x None = (i : ℕ) → i < n → get_or xs i 0 ≡ x → ⊥
FoundIn xs n x (Some i) = (i < n) × (get_or xs i 0 ≡ x)

-- where each of the first n stands, but for those left out
abbrev pub Found : List ℕ → ℕ → BTreeMap ℕ ℕ → Type 0
Found xs n m = (x : ℕ) → FoundIn xs n x (get nat_cmp m x) ⊎ IsFullBelow 257 m x

pub found_none : (xs : List ℕ) (m : BTreeMap ℕ ℕ) → m.entries ≡ [] → Found xs 0 m
found_none xs m e x = inl (subst (FoundIn xs 0 x) (sym (ap (λ es. lookup (is_at (nat_cmp x)) es) e)) (λ i l. absurd (omega arith)))

pub apart_at : (x q : ℕ) → (x ≡ q → ⊥) → is_eq (nat_cmp x q) ≡ false
apart_at x q ne = grind (arith, nat_tests)

some_of : (b : Bool) (o : Option ℕ) → IsSome (cond b None o) → IsSome o
some_of true o h = absurd (let z : ◌≡◌ {A = Bool} false true = h in cc)
some_of false o h = h

-- what is there once one is taken out was there before
pub was_there : (m m2 : BTreeMap ℕ ℕ) (x : ℕ) → Updates nat_cmp m m2 x None → (q : ℕ) → ContainsKey nat_cmp m2 q → ContainsKey nat_cmp m q
was_there m m2 x u q h = some_of (is_eq (nat_cmp x q)) (get nat_cmp m q) (subst IsSome (u.0 q) h)

module _ (xs : List ℕ) (m : BTreeMap ℕ ℕ) (n x : ℕ) (s : Found xs n m) (is : get_or xs n 0 ≡ x) where
  found_other : (q : ℕ) → (x ≡ q → ⊥) → (o : Option ℕ) → FoundIn xs n q o → FoundIn xs (n + 1) q o
  found_other q ne None h = λ i l e. ⊎_elim (λ k. h i k e) (λ k. let last : i ≡ n = omega (arith, k, l) in ne (sym is ∙ ap (λ m. get_or xs m 0) (sym last) ∙ e)) (cases_lt i n)
  found_other q ne (Some i) h = (omega (arith, h.0), h.1)

  -- the next is left out
  pub found_beyond : IsFullBelow 257 m x → Found xs (n + 1) m
  found_beyond b q =
      ⊎_elim
      (λ f. ⊎_elim (λ same. inr (subst (IsFullBelow 257 m) same b)) (λ ne. inl (found_other q ne (get nat_cmp m q) f)) (cases_eq x q))
      (λ k. inr k)
      (s q)

  -- the next is put into the map, unless it is there
  module _ (near : IsFullBelow 257 m x → ⊥) (m2 : BTreeMap ℕ ℕ) (v : ℕ) (first : v ≡ unwrap_or (get nat_cmp m x) n) (u : Updates nat_cmp m m2 x (Some v)) (more : length m.entries ≤ length m2.entries) where
    here : (o : Option ℕ) → get nat_cmp m x ≡ o → v ≡ unwrap_or o n → (v < n + 1) × (get_or xs v 0 ≡ x)
    here None e w = (omega (arith, w), ap (λ i. get_or xs i 0) w ∙ is)
    here (Some i) e w =
        ⊎_elim
        (λ f. let t = subst (FoundIn xs n x) e f in (omega (arith, w, t.0), ap (λ i. get_or xs i 0) w ∙ t.1))
        (λ k. absurd (omega (arith, k.1 x (ap is_some e))))
        (s x)

    still : (q : ℕ) → (x ≡ q → ⊥) → IsFullBelow 257 m q → IsFullBelow 257 m2 q
    still q ne k = (
      omega (arith, k.0, more),
      λ r h. ⊎_elim
          (λ same. ⊎_elim (λ l. omega (arith, l, same)) (λ l. absurd (near (k.0, λ y g. omega (arith, k.1 y g, l)))) (cases_lt x q))
          (λ other. k.1 r (subst IsSome (u.2 r (apart_at x r other)) h))
          (cases_eq x r),
    )

    pub found_put : Found xs (n + 1) m2
    found_put q =
        ⊎_elim
        (λ same. inl (subst (λ y. FoundIn xs (n + 1) y (get nat_cmp m2 y)) same (subst (FoundIn xs (n + 1) x) (sym u.1) (here (get nat_cmp m x) refl first))))
        (λ ne. ⊎_elim (λ f. inl (subst (FoundIn xs (n + 1) q) (sym (u.2 q (apart_at x q ne))) (found_other q ne (get nat_cmp m q) f))) (λ k. inr (still q ne k)) (s q))
        (cases_eq x q)

-- the greatest is taken out where enough are left
found_less : (xs : List ℕ) (n : ℕ) (m m2 : BTreeMap ℕ ℕ) (g : ℕ) → Found xs n m → IsUpperBound nat_cmp m g → Updates nat_cmp m m2 g None → 257 ≤ length m2.entries → Found xs n m2
found_less xs n m m2 g s top u many q =
    ⊎_elim
    (λ same. inr (many, λ r h. omega (arith, same, ge_from_not_lt g r (top r (was_there m m2 g u r h)), gone r h)))
    (λ ne. ⊎_elim (λ f. inl (subst (FoundIn xs n q) (sym (u.2 q (apart_at g q ne))) f)) (λ k. inr (many, λ r h. k.1 r (was_there m m2 g u r h))) (s q))
    (cases_eq g q)
  where
    gone : (r : ℕ) → ContainsKey nat_cmp m2 r → g ≡ r → ⊥
    gone r h e = let z : ◌≡◌ {A = Bool} false true = sym (ap is_some (subst (λ y. get nat_cmp m2 y ≡ None) e u.1)) ∙ h in cc

pub found_popped : (xs : List ℕ) (n : ℕ) (m m2 : BTreeMap ℕ ℕ) (o : Option (ℕ × ℕ)) → Found xs n m → 257 < length m.entries → IsSome o ↔ (0 < length m.entries) → IfSome o (λ p. IsUpperBound nat_cmp m p.0) → IfSome o (λ p. Updates nat_cmp m m2 p.0 None) → length m2.entries + cond (is_some o) 1 0 ≡ length m.entries → Found xs n m2
found_popped xs n m m2 None s many some top u less = absurd (let z : ◌≡◌ {A = Bool} false true = some.1 (omega (arith, many)) in cc)
found_popped xs n m m2 (Some p) s many some top u less = found_less xs n m m2 p.0 s top u (omega (arith, many, less))
