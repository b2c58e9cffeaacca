-- Predecessor lists that grow to the front: one entry, and one for each of a place's moves.
use Rattle.std.proofs.Common.{◌≡◌, ℕ, zero, suc, ◌+◌, ◌-◌, ◌<◌, ◌≤◌, Bool, true, false, cond, eqb, ◌⊎◌, List, ◌∷◌, ◌++◌, length, get_or, take, set, replicate, sym, refl, ap, ◌∙◌, subst, inl, inr, add-zero, arith}
use mathlib.Core.Path.{fun_ext}
use Rattle.std.proofs.lemmas.List.{get_or-set_same, get_or-set_other, length-append, length-replicate, take_all}
use Rattle.std.proofs.lemmas.Bool.{cases_eq, cases_lt, eq-eqb, ne_eqb}
use Rattle.endless.specs.Graph.{times, upto, Filling, Room}
use Rattle.endless.proofs.CountLaws.{one_if}
use Rattle.endless.proofs.Sources.{times_more, times_left, times_here, upto_mono}

-- ---- one entry: v into the list of t

abbrev pub grown : (ℕ → List ℕ) → ℕ → ℕ → ℕ → List ℕ
grown D t v m = cond (eqb t m) (v ∷ D m) (D m)

module _ (f : ℕ → ℕ) (n : ℕ) (ends preds : List ℕ) (D : ℕ → List ℕ) (fill : Filling f n ends preds D)
    (room : (m : ℕ) → m < n → upto f m + length (D m) ≤ upto f (suc m)) (long : length ends ≡ n + 1) (top : upto f n ≤ length preds)
    (t v : ℕ) (inside : t < n) (space : upto f t + length (D t) < upto f (suc t)) where
  pub entry_after : upto f t < get_or ends t 0
  entry_after = omega (arith, fill.many t inside)

  pub entry_before : get_or ends t 0 ≤ upto f (suc t)
  entry_before = omega (arith, fill.many t inside)

  pub entry_within : get_or ends t 0 ≤ length preds
  entry_within = omega (arith, entry_before, upto_mono f (suc t) n inside)

  same_end : get_or (set ends t (get_or ends t 0 - 1)) t 0 ≡ get_or ends t 0 - 1
  same_end = get_or-set_same ends t (get_or ends t 0 - 1) 0 (omega arith)

  -- another list does not hold the place of the new entry
  apart : (m k : ℕ) → m < n → k < length (D m) → (t ≡ m → ⊥) → get_or ends m 0 + k ≡ get_or ends t 0 - 1 → ⊥
  apart m k h l d e = go (cases_lt m t)
    where
      go : (m < t) ⊎ (t ≤ m) → ⊥
      go (inl s) = omega (arith, fill.many m h, upto_mono f (suc m) t s, entry_after)
      go (inr s) = omega (arith, fill.many m h, upto_mono f (suc t) m (let q : suc t ≤ m = omega arith in q), room m h, entry_after, entry_before)

  pub filling_more : Filling f n (set ends t (get_or ends t 0 - 1)) (set preds (get_or ends t 0 - 1) v) (grown D t v)
  filling_more = record {
    many = λ m h. many m h (cases_eq t m);
    last = get_or-set_other ends t n (get_or ends t 0 - 1) 0 (λ e. omega arith) ∙ fill.last;
    held = λ m k h. held m k h (cases_eq t m);
  }
    where
      many : (m : ℕ) → m < n → (t ≡ m) ⊎ (t ≡ m → ⊥) → get_or (set ends t (get_or ends t 0 - 1)) m 0 + length (grown D t v m) ≡ upto f (suc m)
      many m h (inl e) =
          let here : length (grown D t v m) ≡ suc (length (D m)) = ap (λ b. length (cond b (v ∷ D m) (D m))) (eq-eqb t m e) in
          let now : get_or (set ends t (get_or ends t 0 - 1)) m 0 ≡ get_or ends t 0 - 1 = ap (λ j. get_or (set ends t (get_or ends t 0 - 1)) j 0) (sym e) ∙ same_end in
          let was : get_or ends t 0 ≡ get_or ends m 0 = ap (λ j. get_or ends j 0) e in
          omega (arith, fill.many m h, entry_after)
      many m h (inr d) =
          let here : length (grown D t v m) ≡ length (D m) = ap (λ b. length (cond b (v ∷ D m) (D m))) (ne_eqb t m d) in
          let now : get_or (set ends t (get_or ends t 0 - 1)) m 0 ≡ get_or ends m 0 = get_or-set_other ends t m (get_or ends t 0 - 1) 0 (λ e. d (sym e)) in
          omega (arith, fill.many m h)

      front : (m k : ℕ) → m < n → t ≡ m → k < length (v ∷ D m) → get_or (set preds (get_or ends t 0 - 1) v) (get_or ends t 0 - 1 + k) 0 ≡ get_or (v ∷ D m) k 0
      front m zero h e l =
          ap (λ j. get_or (set preds (get_or ends t 0 - 1) v) j 0) (add-zero (get_or ends t 0 - 1))
          ∙ get_or-set_same preds (get_or ends t 0 - 1) v 0 (omega (arith, entry_after, entry_within))
      front m (suc k) h e l =
          let was : get_or ends t 0 ≡ get_or ends m 0 = ap (λ j. get_or ends j 0) e in
          let place : get_or ends t 0 - 1 + suc k ≡ get_or ends m 0 + k = omega (arith, entry_after) in
          ap (λ j. get_or (set preds (get_or ends t 0 - 1) v) j 0) place
          ∙ get_or-set_other preds (get_or ends t 0 - 1) (get_or ends m 0 + k) v 0 (λ s. omega (arith, entry_after))
          ∙ fill.held m k h (omega arith)

      held : (m k : ℕ) → m < n → (t ≡ m) ⊎ (t ≡ m → ⊥) → k < length (grown D t v m)
          → get_or (set preds (get_or ends t 0 - 1) v) (get_or (set ends t (get_or ends t 0 - 1)) m 0 + k) 0 ≡ get_or (grown D t v m) k 0
      held m k h (inl e) l =
          let here : grown D t v m ≡ v ∷ D m = ap (λ b. cond b (v ∷ D m) (D m)) (eq-eqb t m e) in
          let now : get_or (set ends t (get_or ends t 0 - 1)) m 0 ≡ get_or ends t 0 - 1 = ap (λ j. get_or (set ends t (get_or ends t 0 - 1)) j 0) (sym e) ∙ same_end in
          ap (λ j. get_or (set preds (get_or ends t 0 - 1) v) (j + k) 0) now
          ∙ front m k h e (subst (λ xs. k < length xs) here l)
          ∙ ap (λ xs. get_or xs k 0) (sym here)
      held m k h (inr d) l =
          let here : grown D t v m ≡ D m = ap (λ b. cond b (v ∷ D m) (D m)) (ne_eqb t m d) in
          let now : get_or (set ends t (get_or ends t 0 - 1)) m 0 ≡ get_or ends m 0 = get_or-set_other ends t m (get_or ends t 0 - 1) 0 (λ e. d (sym e)) in
          let within : k < length (D m) = subst (λ xs. k < length xs) here l in
          ap (λ j. get_or (set preds (get_or ends t 0 - 1) v) (j + k) 0) now
          ∙ get_or-set_other preds (get_or ends t 0 - 1) (get_or ends m 0 + k) v 0 (apart m k h within d)
          ∙ fill.held m k h within
          ∙ ap (λ xs. get_or xs k 0) (sym here)

-- ---- an entry for each of the first k moves

abbrev pub entered : List ℕ → ℕ → (ℕ → List ℕ) → ℕ → List ℕ
entered targets v D m = replicate (times m targets) v ++ D m

-- from what stood there before, for any lists
abbrev pub Enters : List ℕ → ℕ → List ℕ → List ℕ → ℕ → List ℕ → List ℕ → Type 0
Enters targets v ends₀ preds₀ k ends preds =
    (f : ℕ → ℕ) (n : ℕ) (D : ℕ → List ℕ) → Filling f n ends₀ preds₀ D → Room f n targets ends₀ preds₀ D → Filling f n ends preds (entered (take k targets) v D)

entered_length : (targets : List ℕ) (v : ℕ) (D : ℕ → List ℕ) (m : ℕ) → length (entered targets v D m) ≡ times m targets + length (D m)
entered_length targets v D m = length-append (replicate (times m targets) v) (D m) ∙ ap (λ a. a + length (D m)) (length-replicate (times m targets) v)

entered_more : (targets : List ℕ) (v : ℕ) (D : ℕ → List ℕ) (k : ℕ) → k < length targets
    → (m : ℕ) → grown (entered (take k targets) v D) (get_or targets k 0) v m ≡ entered (take (k + 1) targets) v D m
entered_more targets v D k h m = go (eqb (get_or targets k 0) m) refl
  where
    go : (b : Bool) → eqb (get_or targets k 0) m ≡ b → grown (entered (take k targets) v D) (get_or targets k 0) v m ≡ entered (take (k + 1) targets) v D m
    go true e =
        let one : one_if (eqb (get_or targets k 0) m) ≡ 1 = ap one_if e in
        let more : times m (take (k + 1) targets) ≡ suc (times m (take k targets)) = omega (arith, times_more m targets k h) in
        ap (λ b. cond b (v ∷ entered (take k targets) v D m) (entered (take k targets) v D m)) e
        ∙ ap (λ a. replicate a v ++ D m) (sym more)
    go false e =
        let none : one_if (eqb (get_or targets k 0) m) ≡ 0 = ap one_if e in
        let same : times m (take (k + 1) targets) ≡ times m (take k targets) = omega (arith, times_more m targets k h) in
        ap (λ b. cond b (v ∷ entered (take k targets) v D m) (entered (take k targets) v D m)) e
        ∙ ap (λ a. replicate a v ++ D m) (sym same)

module _ (targets : List ℕ) (v : ℕ) (ends₀ preds₀ : List ℕ) (k : ℕ) (ends preds : List ℕ) (inv : Enters targets v ends₀ preds₀ k ends preds)
    (h : k < length targets) (longs : length ends ≡ length ends₀) (longp : length preds ≡ length preds₀)
    (f : ℕ → ℕ) (n : ℕ) (D : ℕ → List ℕ) (fill : Filling f n ends₀ preds₀ D) (room : Room f n targets ends₀ preds₀ D) where
  space_all : (m : ℕ) → m < n → upto f m + length (entered (take k targets) v D m) ≤ upto f (suc m)
  space_all m l = omega (arith, room.space m l, entered_length (take k targets) v D m, times_left m targets k)

  space_here : upto f (get_or targets k 0) + length (entered (take k targets) v D (get_or targets k 0)) < upto f (suc (get_or targets k 0))
  space_here =
      omega (arith, room.space (get_or targets k 0) (room.within k h), entered_length (take k targets) v D (get_or targets k 0), times_here targets k h)

  pub enters_some : 0 < get_or ends (get_or targets k 0) 0
  enters_some =
      omega (
        arith,
        entry_after f n ends preds (entered (take k targets) v D) (inv f n D fill room) space_all (longs ∙ room.long)
            (subst (λ a. upto f n ≤ a) (sym longp) room.top) (get_or targets k 0) v (room.within k h) space_here,
      )

  pub enters_within : get_or ends (get_or targets k 0) 0 ≤ length preds
  enters_within =
      entry_within f n ends preds (entered (take k targets) v D) (inv f n D fill room) space_all (longs ∙ room.long)
      (subst (λ a. upto f n ≤ a) (sym longp) room.top) (get_or targets k 0) v (room.within k h) space_here

  pub enters_step : Filling f n (set ends (get_or targets k 0) (get_or ends (get_or targets k 0) 0 - 1)) (set preds (get_or ends (get_or targets k 0) 0 - 1) v) (entered (take (k + 1) targets) v D)
  enters_step =
      subst (Filling f n (set ends (get_or targets k 0) (get_or ends (get_or targets k 0) 0 - 1)) (set preds (get_or ends (get_or targets k 0) 0 - 1) v))
      (fun_ext (entered_more targets v D k h))
      (filling_more f n ends preds (entered (take k targets) v D) (inv f n D fill room) space_all (longs ∙ room.long)
      (subst (λ a. upto f n ≤ a) (sym longp) room.top) (get_or targets k 0) v (room.within k h) space_here)

pub enters_more : (targets : List ℕ) (v : ℕ) (ends₀ preds₀ : List ℕ) (k : ℕ) (ends preds : List ℕ) → Enters targets v ends₀ preds₀ k ends preds
    → k < length targets → length ends ≡ length ends₀ → length preds ≡ length preds₀
    → (at : ℕ) (ends' : List ℕ) → at ≡ get_or ends (get_or targets k 0) 0 → ends' ≡ set ends (get_or targets k 0) (at - 1)
    → Enters targets v ends₀ preds₀ (k + 1) ends' (set preds (at - 1) v)
enters_more targets v ends₀ preds₀ k ends preds inv h longs longp at ends' e is f n D fill room =
    let step = enters_step targets v ends₀ preds₀ k ends preds inv h longs longp f n D fill room in
    subst (λ l. Filling f n l (set preds (at - 1) v) (entered (take (k + 1) targets) v D)) (sym is)
    (subst (λ a. Filling f n (set ends (get_or targets k 0) (a - 1)) (set preds (a - 1) v) (entered (take (k + 1) targets) v D)) (sym e) step)

pub enters_all : (targets : List ℕ) (v : ℕ) (ends₀ preds₀ : List ℕ) (k : ℕ) (ends preds : List ℕ) → Enters targets v ends₀ preds₀ k ends preds
    → length targets ≤ k → (f : ℕ → ℕ) (n : ℕ) (D : ℕ → List ℕ) → Filling f n ends₀ preds₀ D → Room f n targets ends₀ preds₀ D
    → Filling f n ends preds (entered targets v D)
enters_all targets v ends₀ preds₀ k ends preds inv h f n D fill room =
    subst (λ l. Filling f n ends preds (entered l v D)) (take_all k targets h) (inv f n D fill room)
