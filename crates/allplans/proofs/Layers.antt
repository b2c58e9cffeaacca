-- Numbers that come round by round of moves are the least.
use Rattle.std.proofs.Common.{◌≡◌, ℕ, zero, suc, ◌+◌, ◌<◌, ◌≤◌, ◌⊎◌, Bool, true, false, ◌&&◌, ◌||◌, List, [], ◌∷◌, length, get_or, map, Option, Some, None, is_some, ◌==◌, nat_lt, eqb, sym, refl, ap, ◌∙◌, subst, inl, inr, le_refl, add-one, eq-or-lt_of_le, arith}
use Rattle.std.specs.Prelude.{vec_items, if◌then◌else◌}
use Rattle.std.specs.List.{zip}
use Rattle.std.specs.Option.{option_eq}
use Rattle.std.proofs.lemmas.Bool.{cases_lt, le-ltb, lt-ltb, eq-eqb, eqb-true}
use Rattle.std.proofs.lemmas.List.{get_or-map, get_or_past, length-map}
use Rattle.std.proofs.lemmas.List.Sums.{sum_by-cons}
use Rattle.std.proofs.lemmas.Slice.Zip.{length-zip, get_or-zip}
use lib.Pointwise.{pointwise, pointwise_decides}
use Rattle.allplans.specs.declared.game.Place.{Place}
use Rattle.allplans.specs.Rounds.{whose, moves}
use Rattle.allplans.specs.Sets.{unknown}
use Rattle.allplans.specs.Distances.{brings, sure, IsLeast, Distances, LeastUpto, Upto, numbered, later}

-- what a test of two lists of numbers tells
number_decides : (x y : Option ℕ) → (option_eq eqb x y ≡ true → x ≡ y) × (x ≡ y → option_eq eqb x y ≡ true)
number_decides None None = (λ _. refl, λ _. refl)
number_decides None (Some y) = (λ e. cc, λ e. cc)
number_decides (Some x) None = (λ e. cc, λ e. cc)
number_decides (Some x) (Some y) = (λ e. ap Some (eqb-true x y e), λ e. eq-eqb x y (cc))

pub numbers_decide : (xs ys : List (Option ℕ)) → (pointwise (option_eq eqb) xs ys ≡ true → xs ≡ ys) × (xs ≡ ys → pointwise (option_eq eqb) xs ys ≡ true)
numbers_decide = pointwise_decides number_decides

-- the numbers of the next round, by those of all places
abbrev round : ℕ → ℕ → List (Option ℕ) → List Place → List (Option ℕ) → List (Option ℕ)
round side n all ps ns = map (λ (p : Place × Option ℕ). later side all n p.0 p.1) (zip ps ns)

abbrev pub next : ℕ → ℕ → List Place → List (Option ℕ) → List (Option ℕ)
next side n ps ns = round side n ns ps ns

pub next_read : (side n : ℕ) {ps qs : List Place} {ns ms : List (Option ℕ)} → qs ≡ ps → ms ≡ ns → next side n qs ms ≡ next side n ps ns
next_read side n e f = λ i. next side n (e i) (f i)

none_more : (ns : List (Option ℕ)) → unknown (None ∷ ns) ≡ 1 + unknown ns
none_more ns = sum_by-cons (λ (o : Option ℕ). if is_some o then 0 else 1) None ns

-- no more places are without a number than before
one_fewer : (b : Bool) (n : ℕ) (xs ns : List (Option ℕ)) → unknown xs ≤ unknown ns → unknown ((if b then Some n else None) ∷ xs) ≤ unknown (None ∷ ns)
one_fewer true n xs ns h = omega (arith, none_more ns)
one_fewer false n xs ns h = omega (arith, none_more ns, none_more xs)

fewer : (side n : ℕ) (all : List (Option ℕ)) (ps : List Place) (ns : List (Option ℕ)) → unknown (round side n all ps ns) ≤ unknown ns
fewer side n all [] ns = omega arith
fewer side n all (p ∷ ps) [] = omega arith
fewer side n all (p ∷ ps) (Some d ∷ ns) = let h = fewer side n all ps ns in omega (arith, h)
fewer side n all (p ∷ ps) (None ∷ ns) = one_fewer (brings (p.whose == side) (numbered all) (vec_items p.moves)) n (round side n all ps ns) ns (fewer side n all ps ns)

-- and if as many are, nothing changed
one_same : (b : Bool) (n : ℕ) (xs ns : List (Option ℕ)) → unknown xs ≤ unknown ns → (unknown xs ≡ unknown ns → xs ≡ ns) → unknown ((if b then Some n else None) ∷ xs) ≡ unknown (None ∷ ns) → (if b then Some n else None) ∷ xs ≡ None ∷ ns
one_same true n xs ns h k e = absurd (omega (arith, none_more ns))
one_same false n xs ns h k e = ap (λ (r : List (Option ℕ)). None ∷ r) (k (omega (arith, none_more ns, none_more xs)))

same : (side n : ℕ) (all : List (Option ℕ)) (ps : List Place) (ns : List (Option ℕ)) → length ns ≡ length ps → unknown (round side n all ps ns) ≡ unknown ns → round side n all ps ns ≡ ns
same side n all [] [] l e = refl
same side n all [] (o ∷ ns) l e = absurd (omega (arith, l))
same side n all (p ∷ ps) [] l e = refl
same side n all (p ∷ ps) (Some d ∷ ns) l e = ap (λ (r : List (Option ℕ)). Some d ∷ r) (same side n all ps ns (omega (arith, l)) (omega (arith, e)))
same side n all (p ∷ ps) (None ∷ ns) l e = one_same (brings (p.whose == side) (numbered all) (vec_items p.moves)) n (round side n all ps ns) ns (fewer side n all ps ns) (same side n all ps ns (omega (arith, l))) e

pub falls : (side n : ℕ) (ps : List Place) (ns ns' : List (Option ℕ)) → ns' ≡ next side n ps ns → (ns' ≡ ns → ⊥) → length ns ≡ length ps → unknown ns' < unknown ns
falls side n ps ns ns' came d l = subst (λ (q : List (Option ℕ)). unknown q < unknown ns) (sym came) (go (eq-or-lt_of_le (fewer side n ns ps ns)))
  where
    go : (unknown (next side n ps ns) ≡ unknown ns) ⊎ (unknown (next side n ps ns) < unknown ns) → unknown (next side n ps ns) < unknown ns
    go (inl e) = absurd (d (came ∙ same side n ns ps ns l e))
    go (inr h) = h

module _ (ps : List Place) (side target : ℕ) where
  abbrev Sure : ℕ → ℕ → Bool
  Sure = sure ps side target

  -- within one more move
  abbrev after : (ℕ → Bool) → ℕ → Bool
  after there = λ v. there v || (nat_lt v (length ps) && brings (whose ps v == side) there (moves ps v))

  -- within more moves too
  grows : (j k v : ℕ) → k ≤ j → Sure k v ≡ true → Sure j v ≡ true
  grows zero k v h e = let z : k ≡ 0 = omega arith in subst (λ (q : ℕ). Sure q v ≡ true) z e
  grows (suc j) k v h e = go (eq-or-lt_of_le h) (λ l. grows j k v l e)
    where
      go : (k ≡ suc j) ⊎ (k < suc j) → (k ≤ j → Sure j v ≡ true) → Sure (suc j) v ≡ true
      go (inl q) ih = subst (λ (q : ℕ). Sure q v ≡ true) q e
      go (inr l) ih = ap (λ (b : Bool). b || (nat_lt v (length ps) && brings (whose ps v == side) (Sure j) (moves ps v))) (ih (omega arith))

  -- from nowhere but places
  outside : (k v : ℕ) → length ps ≤ v → Sure k v ≡ false
  outside zero v h = ap (λ (b : Bool). b && (v == target)) (le-ltb v (length ps) h)
  outside (suc k) v h = ap (λ (b : Bool). b || (nat_lt v (length ps) && brings (whose ps v == side) (Sure k) (moves ps v))) (outside k v h) ∙ ap (λ (b : Bool). b && brings (whose ps v == side) (Sure k) (moves ps v)) (le-ltb v (length ps) h)

  told : (n v : ℕ) (o : Option ℕ) → LeastUpto ps side target n v o → is_some o ≡ Sure n v
  told n v None h = sym (h n (le_refl n))
  told n v (Some d) h = sym (grows n d v h.0 h.1)

  abbrev Told : ℕ → List (Option ℕ) → Type 0
  Told n ns = (v : ℕ) → v < length ps → LeastUpto ps side target n v (get_or ns v None)

  -- what the numbers tell is all that is so within so many moves
  tell : (n : ℕ) (ns : List (Option ℕ)) → length ns ≡ length ps → Told n ns → (v : ℕ) → numbered ns v ≡ Sure n v
  tell n ns l least v = go (cases_lt v (length ps))
    where
      go : (v < length ps) ⊎ (length ps ≤ v) → numbered ns v ≡ Sure n v
      go (inl h) = told n v (get_or ns v None) (least v h)
      go (inr h) = ap is_some (get_or_past ns v None (omega (arith, l))) ∙ sym (outside n v h)

  -- the number of a place in the next round
  abbrev follows : ℕ → Bool → Option ℕ → Option ℕ
  follows n b (Some d) = Some d
  follows n b None = if b then Some (n + 1) else None

  no_more : (n v : ℕ) → v < length ps → (b : Bool) → b ≡ brings (whose ps v == side) (Sure n) (moves ps v) → Sure n v ≡ false → Sure (n + 1) v ≡ b
  no_more n v l b e h =
      ap (λ (q : ℕ). Sure q v) (add-one n) ∙
      (ap (λ (c : Bool). c || (nat_lt v (length ps) && brings (whose ps v == side) (Sure n) (moves ps v))) h ∙
      (ap (λ (c : Bool). c && brings (whose ps v == side) (Sure n) (moves ps v)) (lt-ltb v (length ps) l) ∙ sym e))

  followed : (n v : ℕ) (o : Option ℕ) → v < length ps → LeastUpto ps side target n v o → (b : Bool) → b ≡ brings (whose ps v == side) (Sure n) (moves ps v) → LeastUpto ps side target (n + 1) v (follows n b o)
  followed n v (Some d) l h b e = (omega (arith, h.0), h.1, h.2)
  followed n v None l h true e = (le_refl (n + 1), no_more n v l true e (h n (le_refl n)), λ k q. h k (omega arith))
  followed n v None l h false e = λ k q. go k (eq-or-lt_of_le q)
    where
      go : (k : ℕ) → (k ≡ n + 1) ⊎ (k < n + 1) → Sure k v ≡ false
      go k (inl q) = subst (λ (q : ℕ). Sure q v ≡ false) (sym q) (no_more n v l false e (h n (le_refl n)))
      go k (inr q) = h k (omega arith)

  follow : (n : ℕ) (ns : List (Option ℕ)) (v : ℕ) (d : Place) → v < length ps → length ns ≡ length ps → Told n ns → (o : Option ℕ) → later side ns (n + 1) (get_or ps v d) o ≡ follows n (brings (whose ps v == side) (Sure n) (moves ps v)) o
  follow n ns v d h l least (Some k) = refl
  follow n ns v d h l least None =
      let own : whose ps v ≡ (get_or ps v d).whose = get_or-map (λ (p : Place). p.whose) ps v d 0 h in
      let goes : moves ps v ≡ vec_items (get_or ps v d).moves = get_or-map (λ (p : Place). vec_items p.moves) ps v d [] h in
      let all : numbered ns ≡ Sure n = λ i w. tell n ns l least w i in
      λ i. if brings (sym own i == side) (all i) (sym goes i) then Some (n + 1) else None

  some_place : (qs : List Place) → 0 < length qs → Place
  some_place [] h = absurd (omega arith)
  some_place (p ∷ qs) h = p

  told_more : (n : ℕ) (ns : List (Option ℕ)) → length ns ≡ length ps → Told n ns → Told (n + 1) (next side (n + 1) ps ns)
  told_more n ns l least v h =
      let d = some_place ps (omega arith) in
      let at : get_or (next side (n + 1) ps ns) v None ≡ later side ns (n + 1) (get_or ps v d) (get_or ns v None) =
      get_or-map (λ (p : Place × Option ℕ). later side ns (n + 1) p.0 p.1) (zip ps ns) v (d, None) None (omega (arith, l, length-zip ps ns)) ∙ ap (λ (p : Place × Option ℕ). later side ns (n + 1) p.0 p.1) (get_or-zip ps ns v (d, None) h (omega (arith, l))) in
      subst (λ (o : Option ℕ). LeastUpto ps side target (n + 1) v o) (sym (at ∙ follow n ns v d h l least (get_or ns v None))) (followed n v (get_or ns v None) h (least v h) (brings (whose ps v == side) (Sure n) (moves ps v)) refl)

  length_next : (n : ℕ) (ns : List (Option ℕ)) → length ns ≡ length ps → length (next side n ps ns) ≡ length ps
  length_next n ns l = omega (arith, length-map (zip ps ns) (λ (p : Place × Option ℕ). later side ns n p.0 p.1), length-zip ps ns)

  pub upto_more : (n : ℕ) (ns ns' : List (Option ℕ)) → ns' ≡ next side (n + 1) ps ns → (ns' ≡ ns → ⊥) → Upto ps side target n ns → Upto ps side target (n + 1) ns'
  upto_more n ns ns' e d u = subst (λ (q : List (Option ℕ)). Upto ps side target (n + 1) q) (sym e) (record {
    all_places = length_next (n + 1) ns u.all_places;
    least = told_more n ns u.all_places u.least;
    few = omega (arith, u.few, falls side (n + 1) ps ns (next side (n + 1) ps ns) refl (λ q. d (e ∙ q)) u.all_places);
  })

  -- after a round in which nothing came nothing ever does
  still : (n : ℕ) → Sure (n + 1) ≡ Sure n → (k : ℕ) → n ≤ k → Sure k ≡ Sure n
  still n e zero h = let z : 0 ≡ n = omega arith in ap Sure z
  still n e (suc k) h = go (eq-or-lt_of_le h) (still n e k)
    where
      go : (n ≡ suc k) ⊎ (n < suc k) → (n ≤ k → Sure k ≡ Sure n) → Sure (suc k) ≡ Sure n
      go (inl q) ih = ap Sure (sym q)
      go (inr l) ih = ap after (ih (omega arith)) ∙ (ap Sure (sym (add-one n)) ∙ e)

  pub upto_last : (n : ℕ) (ns ns' : List (Option ℕ)) → ns' ≡ next side (n + 1) ps ns → ns' ≡ ns → Upto ps side target n ns → Distances ps side target ns
  upto_last n ns ns' e f u = record { all_places = u.all_places; least = λ v l. last v (get_or ns v None) (u.least v l) }
    where
      more : Told (n + 1) ns
      more = subst (λ (q : List (Option ℕ)). Told (n + 1) q) (sym e ∙ f) (told_more n ns u.all_places u.least)

      stays : (v : ℕ) → Sure (n + 1) v ≡ Sure n v
      stays v = sym (tell (n + 1) ns u.all_places more v) ∙ tell n ns u.all_places u.least v

      all_stay : Sure (n + 1) ≡ Sure n
      all_stay = λ i v. stays v i

      last : (v : ℕ) (o : Option ℕ) → LeastUpto ps side target n v o → IsLeast ps side target v o
      last v (Some d) h = (h.1, h.2)
      last v None h = λ k. go k (cases_lt n k)
        where
          go : (k : ℕ) → (n < k) ⊎ (k ≤ n) → Sure k v ≡ false
          go k (inl l) = ap (λ (f : ℕ → Bool). f v) (still n all_stay k (omega arith)) ∙ h n (le_refl n)
          go k (inr l) = h k l
