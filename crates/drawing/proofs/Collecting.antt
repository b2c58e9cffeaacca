-- Names are collected as long as they all differ.
use Rattle.std.proofs.Common.{◌≡◌, ℕ, zero, suc, ◌+◌, ◌<◌, ◌≤◌, Bool, true, false, not, ◌||◌, List, [], ◌∷◌, ◌++◌, map, length, get_or, take, slice_get, string_bytes, Some, String, ◌⊎◌, inl, inr, sym, refl, ap, ◌∙◌, subst, arith}
use Rattle.std.specs.List.{list_any}
use Rattle.std.specs.Str.{bytes_eq}
use Rattle.std.specs.String.{string_eq}
use Rattle.std.proofs.lemmas.List.{take_more, take_all, map_push, length-map, length-take-le, get_or-take, get_or-map}
use Rattle.std.proofs.lemmas.Bool.{cond-false, not-false, not-true}
use Rattle.std.proofs.lemmas.Option.{same_Some, slice_get_within, slice_get-get_or, get_or_from_slice_get}
use Rattle.std.proofs.lemmas.Slice.Eq.{bytes_eq-Decides}
use Rattle.indexmap.specs.IndexSet.{insert_key}
use Rattle.claims.specs.Answered.{Differ}
use Rattle.claims.proofs.Tabled.{no_some, get_push_cases}

-- a set of names has a name, or does not
any_name : {Z : Type 0} (x : List ℕ) (ks : List (String Z)) → list_any (λ k. bytes_eq x (string_bytes k)) ks ≡ true → (i : ℕ) × (slice_get (map string_bytes ks) i ≡ Some x)
any_name x [] e = cc
any_name x (k ∷ ks) e = at (λ h. any_name x ks h) (bytes_eq x (string_bytes k)) refl e
  where
    at : (list_any (λ k. bytes_eq x (string_bytes k)) ks ≡ true → (i : ℕ) × (slice_get (map string_bytes ks) i ≡ Some x)) → (t : Bool) → bytes_eq x (string_bytes k) ≡ t → (t || list_any (λ k. bytes_eq x (string_bytes k)) ks) ≡ true → (i : ℕ) × (slice_get (string_bytes k ∷ map string_bytes ks) i ≡ Some x)
    at rec true q h = (0, ap Some (sym ((bytes_eq-Decides x (string_bytes k)).0 q)))
    at rec false q h = let r = rec h in (suc r.0, r.1)

no_name : {Z : Type 0} (x : List ℕ) (ks : List (String Z)) → list_any (λ k. bytes_eq x (string_bytes k)) ks ≡ false → (i : ℕ) → slice_get (map string_bytes ks) i ≡ Some x → ⊥
no_name x [] e i h = no_some h
no_name x (k ∷ ks) e zero h = let is : bytes_eq x (string_bytes k) ≡ true = (bytes_eq-Decides x (string_bytes k)).1 (sym (same_Some (string_bytes k) x h)) in cc
no_name x (k ∷ ks) e (suc i) h = at (λ q. no_name x ks q i h) (bytes_eq x (string_bytes k)) e
  where
    at : (list_any (λ k. bytes_eq x (string_bytes k)) ks ≡ false → ⊥) → (t : Bool) → (t || list_any (λ k. bytes_eq x (string_bytes k)) ks) ≡ false → ⊥
    at rec true q = cc
    at rec false q = rec q

-- the names so far are the first n, and differ
pub record CollectedTo (names so_far : List (List ℕ)) (n : ℕ) : Type 0 where
  pub are : so_far ≡ take n names
  pub differ : Differ so_far

pub collected_all : (names so_far : List (List ℕ)) (n : ℕ) → CollectedTo names so_far n → length names ≤ n → (so_far ≡ names) × Differ names
collected_all names so_far n s l = let e = s.are ∙ take_all n names l in (e, subst Differ e s.differ)

module _ (names so_far : List (List ℕ)) (n : ℕ) (s : CollectedTo names so_far n) (l : n < length names) (x : List ℕ) (is : x ≡ get_or names n []) where
  many : length so_far ≡ n
  many = ap length s.are ∙ length-take-le n names (omega (arith, l))

  before : (i : ℕ) → slice_get so_far i ≡ Some x → i < n
  before i h = omega (arith, slice_get_within so_far i x h, many)

  pub collected_twice : (i : ℕ) → slice_get so_far i ≡ Some x → (j : ℕ) × (k : ℕ) × (j < k) × (slice_get names j ≡ Some x) × (slice_get names k ≡ Some x)
  collected_twice i h =
      let low = before i h in
      let same : get_or names i [] ≡ x = sym (get_or-take n names i [] low) ∙ ap (λ l. get_or l i []) (sym s.are) ∙ get_or_from_slice_get so_far i x [] h in
      (i, n, low, slice_get-get_or names i [] (omega (arith, low, l)) ∙ ap Some same, slice_get-get_or names n [] l ∙ ap Some (sym is))

  module _ (none : (i : ℕ) → slice_get so_far i ≡ Some x → ⊥) where
    pub collected_more : (new : List (List ℕ)) → new ≡ so_far ++ (x ∷ []) → CollectedTo names new (n + 1)
    collected_more new e = record {
      are = e ∙ ap (λ l. l ++ (x ∷ [])) s.are ∙ ap (λ y. take n names ++ (y ∷ [])) is ∙ sym (take_more names n [] l);
      differ = λ i j y h k. at i j y (get_push_cases so_far x y i (ap (λ l. slice_get l i) (sym e) ∙ h)) (get_push_cases so_far x y j (ap (λ l. slice_get l j) (sym e) ∙ k));
    }
      where
        at : (i j : ℕ) (y : List ℕ) → (slice_get so_far i ≡ Some y) ⊎ ((i ≡ length so_far) × (y ≡ x)) → (slice_get so_far j ≡ Some y) ⊎ ((j ≡ length so_far) × (y ≡ x)) → i ≡ j
        at i j y (inl h) (inl k) = s.differ i j y h k
        at i j y (inl h) (inr k) = absurd (none i (h ∙ ap Some k.1))
        at i j y (inr h) (inl k) = absurd (none j (k ∙ ap Some h.1))
        at i j y (inr h) (inr k) = h.0 ∙ sym k.0

module _ {Z : Type 0} (texts ks : List (String Z)) (n : ℕ) (s : CollectedTo (map string_bytes texts) (map string_bytes ks) n) (l : n < length texts) (text : String Z) (at : text ≡ get_or texts n text) (k : String Z) (is : string_bytes k ≡ string_bytes text) where
  abbrev names : List (List ℕ)
  names = map string_bytes texts

  within : n < length names
  within = omega (arith, l, length-map texts string_bytes)

  named : string_bytes k ≡ get_or names n []
  named = is ∙ ap string_bytes at ∙ sym (get_or-map string_bytes texts n text [] l)

  pub inserted_twice : not (list_any (string_eq k) ks) ≡ false → (y : String Z) → string_bytes y ≡ string_bytes text → (i : ℕ) × (j : ℕ) × (i < j) × (slice_get names i ≡ Some (string_bytes y)) × (slice_get names j ≡ Some (string_bytes y))
  inserted_twice h y e =
      let t = any_name (string_bytes k) ks (not-false _ h) in
      let p = collected_twice names (map string_bytes ks) n s within (string_bytes k) named t.0 t.1 in
      let same = is ∙ sym e in
      (p.0, p.1, p.2, p.3 ∙ ap Some same, p.4 ∙ ap Some same)

  pub inserted_more : not (list_any (string_eq k) ks) ≡ true → (new : List (String Z)) → new ≡ insert_key string_eq ks k → CollectedTo names (map string_bytes new) (n + 1)
  inserted_more h new e =
      let none = not-true _ h in
      collected_more names (map string_bytes ks) n s within (string_bytes k) named (no_name (string_bytes k) ks none) (map string_bytes new) (ap (map string_bytes) (e ∙ cond-false _ _ _ none) ∙ map_push string_bytes ks k)
