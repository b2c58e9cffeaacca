-- What is told is noted one by one, and in the end makes the words of the answer.
use Rattle.std.proofs.Common.{◌≡◌, ℕ, zero, suc, ◌*◌, ◌<◌, List, [], ◌∷◌, ◌++◌, true, false, length, get_or, set, slice_get, is_none, Some, None, Err, Option, ◌⊎◌, inl, inr, sym, refl, ap, ◌∙◌, subst, ⊎_elim, arith}
use Rattle.std.specs.Option.{unwrap_or}
use Rattle.std.proofs.lemmas.List.{length-set}
use Rattle.std.proofs.lemmas.Bool.{cases_eq}
use Rattle.std.proofs.lemmas.Option.{same_Some, slice_get_within, slice_get-get_or}
use Rattle.endless.specs.Sides.{number}
use Rattle.claims.specs.declared.Claim.{Claim}
use Rattle.claims.specs.declared.NoWords.{NoWords}
use Rattle.claims.specs.declared.NoWords.TheVariants.{Unclaimed}
use Rattle.claims.specs.Answered.{Told, ToldOf, Differ, Goes, Only, Answered}
use Rattle.claims.specs.Tables.{Worded as WordedAll, Wording, Meant, Tabled}

pub no_some : {A : Type 0} {x : A} → None ≡ Some x → ⊥
no_some e = cc

is_none-true : {A : Type 0} (o : Option A) → is_none o ≡ true → o ≡ None
is_none-true None e = refl
is_none-true (Some x) e = cc

is_none-false : {A : Type 0} (o : Option A) → is_none o ≡ false → (x : A) × (o ≡ Some x)
is_none-false None e = cc
is_none-false (Some x) e = (x, refl)

get_set_same : {A : Type 0} (xs : List A) (i : ℕ) (a x : A) → slice_get xs i ≡ Some x → slice_get (set xs i a) i ≡ Some a
get_set_same [] i a x h = absurd (no_some h)
get_set_same (y ∷ ys) zero a x h = refl
get_set_same (y ∷ ys) (suc i) a x h = get_set_same ys i a x h

get_set_other : {A : Type 0} (xs : List A) (i j : ℕ) (a : A) → (j ≡ i → ⊥) → slice_get (set xs i a) j ≡ slice_get xs j
get_set_other [] i j a h = refl
get_set_other (y ∷ ys) zero zero a h = absurd (h refl)
get_set_other (y ∷ ys) zero (suc j) a h = refl
get_set_other (y ∷ ys) (suc i) zero a h = refl
get_set_other (y ∷ ys) (suc i) (suc j) a h = get_set_other ys i j a (λ e. h (ap suc e))

pub get_push_last : {A : Type 0} (xs : List A) (a : A) → slice_get (xs ++ (a ∷ [])) (length xs) ≡ Some a
get_push_last [] a = refl
get_push_last (x ∷ xs) a = get_push_last xs a

pub get_push_front : {A : Type 0} (xs : List A) (a x : A) (j : ℕ) → slice_get xs j ≡ Some x → slice_get (xs ++ (a ∷ [])) j ≡ Some x
get_push_front [] a x j h = absurd (no_some h)
get_push_front (y ∷ ys) a x zero h = h
get_push_front (y ∷ ys) a x (suc j) h = get_push_front ys a x j h

-- what stands there stood there before, or is the last
pub get_push_cases : {A : Type 0} (xs : List A) (a x : A) (j : ℕ) → slice_get (xs ++ (a ∷ [])) j ≡ Some x → (slice_get xs j ≡ Some x) ⊎ ((j ≡ length xs) × (x ≡ a))
get_push_cases [] a x zero h = inr (refl, sym (same_Some a x h))
get_push_cases [] a x (suc j) h = absurd (no_some h)
get_push_cases (y ∷ ys) a x zero h = inl h
get_push_cases (y ∷ ys) a x (suc j) h = ⊎_elim (λ e. inl e) (λ e. inr (ap suc e.0, e.1)) (get_push_cases ys a x j h)

module _ {K : Type 0} (names : List K) (ts : List (Told K)) (claims : List (Option Claim)) (s : Tabled names ts claims) (differ : Differ names) where
  inside : (i : ℕ) (x : K) → slice_get names i ≡ Some x → slice_get claims i ≡ Some (get_or claims i None)
  inside i x at = slice_get-get_or claims i None (omega (arith, s.many, slice_get_within names i x at))

  -- nothing is claimed of a place, or it was told of
  tabled_first : (i : ℕ) (x : K) → slice_get names i ≡ Some x → is_none (get_or claims i None) ≡ true → slice_get claims i ≡ Some None
  tabled_first i x at none = inside i x at ∙ ap Some (is_none-true (get_or claims i None) none)

  pub tabled_again : (i : ℕ) (x : K) → slice_get names i ≡ Some x → is_none (get_or claims i None) ≡ false → ToldOf ts x
  tabled_again i x at some =
      let c = is_none-false (get_or claims i None) some in
      let p = s.only i c.0 x (inside i x at ∙ ap Some c.1) at in
      (p.0, p.1.told, p.1.is, p.1.named)

  -- of a place of which nothing is claimed nothing is told
  tabled_open : (i : ℕ) (x : K) → slice_get names i ≡ Some x → slice_get claims i ≡ Some None → ToldOf ts x → ⊥
  tabled_open i x at none t =
      let p = s.told t.0 t.1 t.2 in
      let same : p.0 ≡ i = differ p.0 i x (p.3.place ∙ ap Some t.3) at in
      no_some (same_Some None (Some p.1) (sym none ∙ ap (slice_get claims) (sym same) ∙ p.2))

  module _ (t : Told K) (i : ℕ) (c : Claim) (none : slice_get claims i ≡ Some None) (meant : Meant names i c t) (new : List (Option Claim)) (is : new ≡ set claims i (Some c)) where
    here : slice_get new i ≡ Some (Some c)
    here = ap (λ l. slice_get l i) is ∙ get_set_same claims i (Some c) None none

    there : (j : ℕ) → (j ≡ i → ⊥) → slice_get new j ≡ slice_get claims j
    there j h = ap (λ l. slice_get l j) is ∙ get_set_other claims i j (Some c) h

    more_told : (j : ℕ) (u : Told K) → (slice_get ts j ≡ Some u) ⊎ ((j ≡ length ts) × (u ≡ t)) → (k : ℕ) × (d : Claim) × (slice_get new k ≡ Some (Some d)) × Meant names k d u
    more_told j u (inl h) =
        let p = s.told j u h in
        (p.0, p.1, there p.0 (λ e. no_some (same_Some None (Some p.1) (sym none ∙ ap (slice_get claims) (sym e) ∙ p.2))) ∙ p.2, p.3)
    more_told j u (inr h) = (i, c, here, subst (Meant names i c) (sym h.1) meant)

    more_only : (k : ℕ) (d : Claim) (x : K) → (k ≡ i) ⊎ (k ≡ i → ⊥) → slice_get new k ≡ Some (Some d) → slice_get names k ≡ Some x → (j : ℕ) × Only (ts ++ (t ∷ [])) x j
    more_only k d x (inl e) h at =
        let named : t.named ≡ x = same_Some t.named x (sym meant.place ∙ ap (slice_get names) (sym e) ∙ at) in (
          length ts,
          record {
            told = t;
            is = get_push_last ts t;
            named = named;
            one = λ l u g n. ⊎_elim (λ b. absurd (tabled_open i x (ap (slice_get names) (sym e) ∙ at) none (l, u, b, n))) (λ b. b.0) (get_push_cases ts t u l g);
          },
        )
    more_only k d x (inr e) h at =
        let p = s.only k d x (sym (there k e) ∙ h) at in (
          p.0,
          record {
            told = p.1.told;
            is = get_push_front ts t p.1.told p.0 p.1.is;
            named = p.1.named;
            one = λ l u g n. ⊎_elim (λ b. p.1.one l u b n) (λ b. absurd (e (differ k i x at (meant.place ∙ ap Some (ap (λ v. v.named) (sym b.1) ∙ n))))) (get_push_cases ts t u l g);
          },
        )

    added : Tabled names (ts ++ (t ∷ [])) new
    added = record {
      many = ap length is ∙ length-set claims i (Some c) ∙ s.many;
      told = λ j u h. more_told j u (get_push_cases ts t u j h);
      only = λ k d x h at. more_only k d x (cases_eq k i) h at;
    }

  -- one more is told
  pub tabled_more : (t : Told K) (i : ℕ) (c : Claim) → Meant names i c t → is_none (get_or claims i None) ≡ true → (new : List (Option Claim)) → new ≡ set claims i (Some c) → Tabled names (ts ++ (t ∷ [])) new
  tabled_more t i c meant none new is = added t i c (tabled_first i t.named meant.place none) meant new is

  -- a place is one of those named, and not told of
  module _ (w : NoWords) (i : ℕ) (wording : Wording claims (Err w)) (is : w ≡ Unclaimed i) where
    none_there : slice_get claims i ≡ Some None
    none_there = subst (λ w. Wording claims (Err w)) is wording

    pub unclaimed_within : i < length names
    unclaimed_within = omega (arith, slice_get_within claims i None none_there, s.many)

    pub unclaimed_untold : (x : K) → slice_get names i ≡ Some x → ToldOf ts x → ⊥
    unclaimed_untold x at t = tabled_open i x at none_there t

  -- the words of all
  pub tabled_all : (words : List ℕ) → WordedAll claims words → Answered names ts words
  tabled_all words w = record {
    many = w.many ∙ ap (λ n. 2 * n) s.many;
    told = λ j t h.
        let p = s.told j t h in
        let q = w.each p.0 (Some p.1) p.2 in
        let same : q.0 ≡ p.1 = same_Some q.0 p.1 (sym q.1) in (
          p.0,
          record {
            place = p.3.place;
            side = q.2.side ∙ ap (λ d. number d.winner) same ∙ p.3.side;
            goes = subst (Goes names t.goes) (sym (q.2.goes ∙ ap (λ d. unwrap_or d.goal 4294967295) same)) p.3.goes;
          },
        );
    each = λ i x at. each i x at;
  }
    where
      each : (i : ℕ) (x : K) → slice_get names i ≡ Some x → (j : ℕ) × Only ts x j
      each i x at = some (slice_get claims i) refl
        where
          some : (o : Option (Option Claim)) → slice_get claims i ≡ o → (j : ℕ) × Only ts x j
          some None e = absurd (no_some (sym e ∙ inside i x at))
          some (Some o) e = let q = w.each i o e in s.only i q.0 x (e ∙ ap Some q.1) at
