-- What places are called.
use Rattle.std.proofs.Common.{◌≡◌, ℕ, zero, suc, ◌+◌, ◌^◌, ◌<◌, ◌≤◌, Bool, true, false, cond, List, [], ◌∷◌, ◌++◌, length, map, take, get_or, Some, Option, unwrap_or, BTreeMap, Bor, Global, String, string_bytes, bytes_eq, count_by, sym, refl, ap, subst, ◌∙◌, ⊎_elim, arith}
use Rattle.std.specs.BTreeMap.{get_by}
use Rattle.std.specs.Cmp.Lexicographic.{slice_cmp, bytes_decides, nat_list_eq_equiv}
use Rattle.std.specs.Fmt.{decimal}
use Rattle.std.specs.Map.{update}
use Rattle.std.specs.Ordering.{nat_cmp}
use Rattle.std.specs.Vec.{vec_items}
use Rattle.std.proofs.lemmas.Bool.{cond-true, cases_lt}
use Rattle.std.proofs.lemmas.Bool.Decides.{nat_tests}
use Rattle.std.proofs.lemmas.Fmt.{decimal_injective}
use Rattle.std.proofs.lemmas.Grind.{common_steps}
use Rattle.std.proofs.lemmas.List.{length-take-le, length-map, map_push, take_more, get_or-map}
use Rattle.std.proofs.lemmas.List.Sums.{count_by_more_yes, count_by_more_no, count_by-le-length, sum_by-cons}
use Rattle.pgsolver.specs.declared.Named.{Named}
use Rattle.pgsolver.specs.Called.{bearers, digits_alone, tells, called, ToldApart}
use Rattle.pgsolver.specs.Ids.{ids_of}
use Rattle.pgsolver.proofs.Numerals.{decimal_alone}

-- how many bear a name, with one place more
bearers_more : (places : List Named) (n : ℕ) (d : Named) (name : List ℕ) → n < length places → bearers (take (n + 1) places) name ≡ bearers (take n places) name + cond (bytes_eq name (vec_items (get_or places n d).name)) 1 0
bearers_more places n d name h = grind (arith, common_steps, count_by_more_yes, count_by_more_no)

pub bearers_few : (places : List Named) (n : ℕ) (name : List ℕ) → n < length places → bearers (take n places) name ≤ n
bearers_few places n name h = omega (arith, count_by-le-length (λ (p : Named). bytes_eq name (vec_items p.name)) (take n places), length-take-le n places)

-- how often the map has counted the name
abbrev pub counted : BTreeMap (Bor (List ℕ)) ℕ → List ℕ → Option ℕ
counted m name = get_by (λ k. slice_cmp nat_cmp name k.now) m

-- one place more is counted
module _ (places : List Named) (n : ℕ) (d : Named) (inside : n < length places) (m m2 : BTreeMap (Bor (List ℕ)) ℕ) (before : (name : List ℕ) → unwrap_or (counted m name) 0 ≡ bearers (take n places) name) (key : List ℕ) (is : key ≡ vec_items (get_or places n d).name) (sets : (name : List ℕ) → counted m2 name ≡ update bytes_eq (counted m) key (Some (unwrap_or (counted m key) 0 + 1)) name) where
  counted_at : (name : List ℕ) (b : Bool) → bytes_eq key name ≡ b → unwrap_or (cond (bytes_eq key name) (Some (unwrap_or (counted m key) 0 + 1)) (counted m name)) 0 ≡ bearers (take n places) name + cond (bytes_eq name key) 1 0
  counted_at name true same = rw (nat_list_eq_equiv.symm name key, same) (ap (λ k. unwrap_or (counted m k) 0 + 1) ((bytes_decides key name).0 same) ∙ ap (λ k. k + 1) (before name))
  counted_at name false differs = rw (nat_list_eq_equiv.symm name key, differs) (omega (arith, before name))

  pub counted_more : (name : List ℕ) → unwrap_or (counted m2 name) 0 ≡ bearers (take (n + 1) places) name
  counted_more name =
      ap (λ o. unwrap_or o 0) (sets name)
      ∙ counted_at name (bytes_eq key name) refl
      ∙ ap (λ k. bearers (take n places) name + cond (bytes_eq name k) 1 0) is
      ∙ sym (bearers_more places n d name inside)

-- an element that passes counts, and two count twice
counts_once : {X : Type 0} (p : X → Bool) (xs : List X) (i : ℕ) (d : X) → i < length xs → p (get_or xs i d) ≡ true → 1 ≤ count_by p xs
counts_once p [] i d h e = absurd (omega arith)
counts_once p (x ∷ xs) zero d h e = omega (arith, sum_by-cons (λ y. cond (p y) 1 0) x xs, cond-true {A = ℕ} (p x) 1 0 e)
counts_once p (x ∷ xs) (suc i) d h e = omega (arith, sum_by-cons (λ y. cond (p y) 1 0) x xs, counts_once p xs i d (omega arith) e)

counts_twice : {X : Type 0} (p : X → Bool) (xs : List X) (i j : ℕ) (d : X) → i < j → j < length xs → p (get_or xs i d) ≡ true → p (get_or xs j d) ≡ true → 2 ≤ count_by p xs
counts_twice p [] i j d l h e f = absurd (omega arith)
counts_twice p (x ∷ xs) i zero d l h e f = absurd (omega arith)
counts_twice p (x ∷ xs) zero (suc j) d l h e f = omega (arith, sum_by-cons (λ y. cond (p y) 1 0) x xs, cond-true {A = ℕ} (p x) 1 0 e, counts_once p xs j d (omega arith) f)
counts_twice p (x ∷ xs) (suc i) (suc j) d l h e f = omega (arith, sum_by-cons (λ y. cond (p y) 1 0) x xs, counts_twice p xs i j d (omega arith) (omega arith) e f)

pub id_of : (places : List Named) (k : ℕ) (d : Named) → k < length places → get_or (ids_of places) k 0 ≡ (get_or places k d).id
id_of places k d m = get_or-map (λ p. p.id) places k d 0 m

-- one place more is called something
pub called_more : (places : List Named) (k : ℕ) (d : Named) (all more : List (String Global)) (s : String Global) → k < length places → map string_bytes all ≡ map (called places) (take k places) → more ≡ all ++ s ∷ [] → string_bytes s ≡ called places (get_or places k d) → map string_bytes more ≡ map (called places) (take (k + 1) places)
called_more places k d all more s h are is e = simp (is, take_more places k d h, map_push) (cc)

-- places that are called the same have the same id
module _ (places : List Named) (d : Named) (fits : (k : ℕ) → k < length places → (get_or places k d).id < 2 ^ 64) where
  name_at : ℕ → List ℕ
  name_at i = vec_items (get_or places i d).name

  -- not both have a name that one place has
  one_bearer : (i j : ℕ) → i < j → j < length places → name_at i ≡ name_at j → tells places (name_at i) ≡ true → ⊥
  unfolding name_at
  one_bearer i j l h e t =
      let twice = counts_twice (λ (p : Named). bytes_eq (name_at i) (vec_items p.name)) places i j d l h ((bytes_decides (name_at i) (name_at i)).1 refl) ((bytes_decides (name_at i) (name_at j)).1 e) in
      grind (arith, nat_tests, t, twice)

  -- a name that tells is no id
  no_id : (i n : ℕ) → n < 2 ^ 64 → tells places (name_at i) ≡ true → name_at i ≡ decimal n → ⊥
  unfolding name_at
  no_id i n l t e =
      let alone : digits_alone (name_at i) ≡ true = ap digits_alone e ∙ decimal_alone n l in
      grind (arith, nat_tests, t, alone)

  called_same : (i j : ℕ) → i < j → j < length places → called places (get_or places i d) ≡ called places (get_or places j d) → (get_or places i d).id ≡ (get_or places j d).id
  unfolding name_at
  called_same i j l h e = by_cases (tells places (name_at i)) (tells places (name_at j)) refl refl e
    where
      by_cases : (a b : Bool) → tells places (name_at i) ≡ a → tells places (name_at j) ≡ b → cond a (name_at i) (decimal (get_or places i d).id) ≡ cond b (name_at j) (decimal (get_or places j d).id) → (get_or places i d).id ≡ (get_or places j d).id
      by_cases true true t u e = absurd (one_bearer i j l h e t)
      by_cases true false t u e = absurd (no_id i _ (fits j h) t e)
      by_cases false true t u e = absurd (no_id j _ (fits i (omega arith)) u (sym e))
      by_cases false false t u e = decimal_injective _ _ (fits i (omega arith)) (fits j h) e

  pub called_id : (i j : ℕ) → i < length places → j < length places → called places (get_or places i d) ≡ called places (get_or places j d) → (get_or places i d).id ≡ (get_or places j d).id
  called_id i j l h e =
      ⊎_elim
      (λ lt. called_same i j lt h e)
      (λ ge. ⊎_elim
      (λ lt. sym (called_same j i lt l (sym e)))
      (λ le. let same : i ≡ j = omega arith in ap (λ k. (get_or places k d).id) same)
      (cases_lt j i))
      (cases_lt i j)

-- the same of the lists of what they are called and of their ids
module _ (places : List Named) (names : List (List ℕ)) (are : names ≡ map (called places) places) (fits : (k : ℕ) → k < length places → get_or (ids_of places) k 0 < 2 ^ 64) where
  low : (k : ℕ) → k < length names → k < length places
  low k m = omega (arith, m, ap length are, length-map places (called places))

  name_is : (k : ℕ) (d : Named) → k < length names → get_or names k [] ≡ called places (get_or places k d)
  name_is k d m = ap (λ ns. get_or ns k []) are ∙ get_or-map (called places) places k d [] (low k m)

  apart_by : Named → ToldApart (ids_of places) names
  apart_by d i j l h e =
      id_of places i d (low i l)
      ∙ called_id places d (λ k m. subst (λ x. x < 2 ^ 64) (id_of places k d m) (fits k m)) i j (low i l) (low j h) (sym (name_is i d l) ∙ e ∙ name_is j d h)
      ∙ sym (id_of places j d (low j h))

pub apart : (places : List Named) (names : List (List ℕ)) → names ≡ map (called places) places → ((k : ℕ) → k < length places → get_or (ids_of places) k 0 < 2 ^ 64) → ToldApart (ids_of places) names
apart [] names are fits = λ i j l h e. absurd (omega (arith, l, ap length are))
apart (p ∷ ps) names are fits = apart_by (p ∷ ps) names are fits p
