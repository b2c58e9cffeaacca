-- Where a name stands among the names.
use Rattle.std.proofs.Common.{◌≡◌, ℕ, zero, suc, ◌<◌, Bool, true, false, cond, ltb, List, [], ◌∷◌, ◌+◌, not, ◌||◌, ◌++◌, is_some, slice_get, Ok, Err, map, length, get_or, string_bytes, Some, None, String, sym, refl, ap, ◌∙◌, arith}
use Rattle.std.specs.List.{list_any, position, position_or_len}
use Rattle.std.specs.Str.{bytes_eq}
use Rattle.std.proofs.lemmas.Slice.Eq.{bytes_eq-Decides}
use Rattle.std.proofs.lemmas.Bool.{cond-true, cond-false, lt-ltb, le-ltb, ltb-true, ltb-false, or_parts, false≢true}
use Rattle.indexmap.specs.IndexSet.{insert_key}
use Rattle.std.specs.String.{string_eq}
use Rattle.std.proofs.lemmas.List.{length-map, map_push}
use Rattle.std.proofs.lemmas.Option.{same_Some}
use Rattle.std.proofs.lemmas.Bool.Decides.{same_from_decides}
use Rattle.drawing.specs.Reading.{up, index_of, add_new, twice}

pub index_some : (x : List ℕ) (names : List (List ℕ)) (i : ℕ) → i < length names → get_or names i [] ≡ x → (j : ℕ) × (index_of x names ≡ Some j)
index_some x [] i l e = absurd (omega arith)
index_some x (y ∷ ys) zero l e = (0, cond-true _ _ _ ((bytes_eq-Decides y x).1 e))
index_some x (y ∷ ys) (suc i) l e = at (bytes_eq y x) (index_some x ys i (omega arith) e)
  where
    at : (t : Bool) → (j : ℕ) × (index_of x ys ≡ Some j) → (j : ℕ) × (cond t (Some 0) (up (index_of x ys)) ≡ Some j)
    at true q = (0, refl)
    at false q = (suc q.0, ap up q.1)

-- text is compared either way round
bytes_eq_swap : (a b : List ℕ) → bytes_eq a b ≡ bytes_eq b a
bytes_eq_swap a b = same_from_decides (bytes_eq a b) (bytes_eq b a) (bytes_eq-Decides a b) ((λ e. sym ((bytes_eq-Decides b a).0 e)), (λ e. (bytes_eq-Decides b a).1 (sym e)))

one_on : (n m : ℕ) (t u : Bool) → ltb n m ≡ u → cond t (Some 0) (up (cond u (Some n) None)) ≡ cond (ltb (cond (not t) (1 + n) 0) (suc m)) (Some (cond (not t) (1 + n) 0)) None
one_on n m true u e = sym (cond-true _ _ _ (lt-ltb 0 (suc m) (omega arith)))
one_on n m false true e =
    let l = ltb-true n m e in
    let same : 1 + n ≡ suc n = omega arith in
    sym (cond-true (ltb (1 + n) (suc m)) (Some (1 + n)) None (lt-ltb (1 + n) (suc m) (omega arith)) ∙ ap Some same)
one_on n m false false e =
    let l = ltb-false n m e in
    sym (cond-false (ltb (1 + n) (suc m)) (Some (1 + n)) None (le-ltb (1 + n) (suc m) (omega arith)))

-- the set of names finds the same
pub index_is_position : {Z : Type 0} (x : List ℕ) (ks : List (String Z)) → index_of x (map string_bytes ks) ≡ position (λ k. bytes_eq x (string_bytes k)) ks
index_is_position x [] = refl
index_is_position x (k ∷ ks) =
    ap (λ t. cond t (Some 0) (up (index_of x (map string_bytes ks)))) (bytes_eq_swap (string_bytes k) x)
    ∙ ap (λ o. cond (bytes_eq x (string_bytes k)) (Some 0) (up o)) (index_is_position x ks)
    ∙ one_on (position_or_len (λ k. bytes_eq x (string_bytes k)) ks) (length ks) (bytes_eq x (string_bytes k)) (ltb (position_or_len (λ k. bytes_eq x (string_bytes k)) ks) (length ks)) refl

-- a name that is not in the set has no index
pub index_none : {Z : Type 0} (x : List ℕ) (ks : List (String Z)) → list_any (λ k. bytes_eq x (string_bytes k)) ks ≡ false → index_of x (map string_bytes ks) ≡ None
index_none x [] e = refl
index_none x (k ∷ ks) e = let p = or_parts _ _ e in cond-false _ _ _ (bytes_eq_swap (string_bytes k) x ∙ p.0) ∙ ap up (index_none x ks p.1)

-- a name that is in the set has one
pub index_there : {Z : Type 0} (x : List ℕ) (ks : List (String Z)) → list_any (λ k. bytes_eq x (string_bytes k)) ks ≡ true → (i : ℕ) × (index_of x (map string_bytes ks) ≡ Some i)
index_there x [] e = absurd (false≢true e)
index_there x (k ∷ ks) e = at (λ h. index_there x ks h) (bytes_eq x (string_bytes k)) refl e
  where
    at : (list_any (λ k. bytes_eq x (string_bytes k)) ks ≡ true → (i : ℕ) × (index_of x (map string_bytes ks) ≡ Some i)) → (t : Bool) → bytes_eq x (string_bytes k) ≡ t → (t || list_any (λ k. bytes_eq x (string_bytes k)) ks) ≡ true → (i : ℕ) × (cond (bytes_eq (string_bytes k) x) (Some 0) (up (index_of x (map string_bytes ks))) ≡ Some i)
    at rec true q h = (0, cond-true _ _ _ (bytes_eq_swap (string_bytes k) x ∙ q))
    at rec false q h = let r = rec h in (suc r.0, cond-false _ _ _ (bytes_eq_swap (string_bytes k) x ∙ q) ∙ ap up r.1)

module _ {Z : Type 0} (names : List (List ℕ)) (ks : List (String Z)) (k : String Z) (view : map string_bytes ks ≡ names) where
  module _ (there : list_any (string_eq k) ks ≡ false) where
    none : index_of (string_bytes k) names ≡ None
    none = ap (index_of (string_bytes k)) (sym view) ∙ index_none (string_bytes k) ks there

    pub set_lacks : is_some (index_of (string_bytes k) names) ≡ true → ⊥
    set_lacks e = false≢true (sym (ap is_some none) ∙ e)

    -- a name that is not among the others goes behind them
    pub set_added : (n : ℕ) (new : List (String Z)) → length ks < 16384 → new ≡ insert_key string_eq ks k → add_new n names (string_bytes k) (index_of (string_bytes k) names) ≡ Ok (map string_bytes new)
    set_added n new room e =
        ap (add_new n names (string_bytes k)) none
        ∙ cond-true _ _ _ (lt-ltb (length names) 16384 (omega (arith, ap length view, length-map ks string_bytes)))
        ∙ ap Ok (ap (λ l. l ++ (string_bytes k ∷ [])) (sym view) ∙ sym (map_push string_bytes ks k) ∙ ap (map string_bytes) (sym (e ∙ cond-false _ _ _ there)))

  -- one that is among them is refused by the name that has its place
  pub set_twice : list_any (string_eq k) ks ≡ true → (n : ℕ) (new : List (String Z)) (i : ℕ) → (l : String Z) × (slice_get new i ≡ Some l) × (string_eq k l ≡ true) → (l : String Z) → slice_get new i ≡ Some l → (x : List ℕ) → x ≡ string_bytes l → add_new n names (string_bytes k) (index_of (string_bytes k) names) ≡ Err (twice n x)
  set_twice there n new i stored l at x is =
      ap (add_new n names (string_bytes k)) (ap (index_of (string_bytes k)) (sym view) ∙ (index_there (string_bytes k) ks there).1)
      ∙ ap (λ y. Err (twice n y)) ((bytes_eq-Decides (string_bytes k) (string_bytes stored.0)).0 stored.2 ∙ ap string_bytes (same_Some stored.0 l (sym stored.1 ∙ at)) ∙ sym is)
