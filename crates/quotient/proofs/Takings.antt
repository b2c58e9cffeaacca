-- Places taken out of their parts, one after the other.
use Rattle.std.proofs.Common.{◌≡◌, ℕ, ◌+◌, ◌-◌, ◌<◌, ◌≤◌, Bool, true, false, not, ◌&&◌, ◌||◌, T, eqb, ◌⊎◌, List, length, get_or, set, take, sym, refl, ap, ◌∙◌, subst, inl, inr, arith}
use Rattle.std.proofs.lemmas.List.{get_or-set_same, get_or-set_other, get_or-take, length-take-le}
use Rattle.std.proofs.lemmas.Bool.{cases_eq, both_ways, eq-eqb, ne_eqb}
use Rattle.endless.specs.Games.{Game, May}
use Rattle.endless.specs.Graph.{Preds}
use Rattle.endless.specs.Sets.{In}
use Rattle.endless.specs.Bits.{members, count, Inserted}
use Rattle.endless.proofs.Among.{among_at, at_among}
use Rattle.endless.proofs.Places.{from_place}
use Rattle.endless.proofs.CountLaws.{count_same, count_with, count_without, count_le, some_count, none_count}
use Rattle.endless.proofs.Tests.{true_T, T_true, from_left, from_right}
use Rattle.quotient.specs.Gathering.{Nothing}
use Rattle.quotient.specs.Refining.{part}
use Rattle.quotient.specs.Rounds.{inside, Sized, Taken}

pub taken_none : {g : Game} {parts sizes out : List ℕ} (list : List ℕ) → Sized g parts out sizes → Nothing out → Taken g parts sizes list out 0
taken_none {g} {out = out} list sized none = record {
  sized = sized;
  counted = none_count (members out) (length g) (λ j h. not_in j (members out j) refl);
  places = λ j h. absurd (omega arith);
  are_out = λ j h. absurd (omega arith);
  listed = λ n x. absurd (none n x);
  once = λ j k h l. absurd (omega arith);
}
  where
    not_in : (j : ℕ) (b : Bool) → members out j ≡ b → members out j ≡ false
    not_in j true e = absurd (none j (true_T _ e))
    not_in j false e = e

module _ {g : Game} {parts sizes list out : List ℕ} {many : ℕ} (taken : Taken g parts sizes list out many) (n : ℕ) (here : n < length g) (in_part : members out n ≡ false) where
  was_inside : inside parts out (part parts n) n ≡ true
  was_inside = ap (λ (b : Bool). b && not (members out n)) (eq-eqb (part parts n) (part parts n) refl) ∙ ap not in_part

  -- its part has a place
  pub some_left : 0 < get_or sizes (part parts n) 0
  some_left = omega (arith, taken.sized (part parts n), some_count (inside parts out (part parts n)) (length g) n here was_inside)

  module _ {out' : List ℕ} (ins : Inserted out n out') where
    more_out : count (members out') (length g) ≡ many + 1
    more_out = count_with (members out) (members out') n (length g) here in_part ins.are ∙ ap (λ (k : ℕ). k + 1) taken.counted

    -- there is room in the list
    pub few_out : many < length g
    few_out = omega (arith, more_out, count_le (members out') (length g))

    abbrev sizes' : List ℕ
    sizes' = set sizes (part parts n) (get_or sizes (part parts n) 0 - 1)

    abbrev list' : List ℕ
    list' = set list many n

    kept : (m : ℕ) → In (members out) m → In (members out') m
    kept m x = subst T (sym (ins.are m)) (from_right (eqb m n) (members out m) x)

    came : In (members out') n
    came = subst T (sym (ins.are n)) (from_left (eqb n n) (members out n) (true_T _ (eq-eqb n n refl)))

    is_out : (m : ℕ) → In (members out') m → (m ≡ n) ⊎ In (members out) m
    is_out m x = go (cases_eq m n)
      where
        go : (m ≡ n) ⊎ (m ≡ n → ⊥) → (m ≡ n) ⊎ In (members out) m
        go (inl e) = inl e
        go (inr d) = inr (subst (λ (b : Bool). T (b || members out m)) (ne_eqb m n d) (subst T (ins.are m) x))

    before : (j : ℕ) → j < many → get_or list' j 0 ≡ get_or list j 0
    before j h = get_or-set_other list many j n 0 (λ e. omega arith)

    module _ (sizes_long : part parts n < length sizes) (list_long : many < length list) where
      now : get_or list' many 0 ≡ n
      now = get_or-set_same list many n 0 list_long

      inside_other : (q : ℕ) → (part parts n ≡ q → ⊥) → (m : ℕ) → inside parts out' q m ≡ inside parts out q m
      inside_other q d m = go (cases_eq m n)
        where
          go : (m ≡ n) ⊎ (m ≡ n → ⊥) → inside parts out' q m ≡ inside parts out q m
          go (inl e) =
              let z : eqb (part parts m) q ≡ false = ne_eqb (part parts m) q (λ s. d (sym (ap (part parts) e) ∙ s)) in
              ap (λ (b : Bool). b && not (members out' m)) z ∙ sym (ap (λ (b : Bool). b && not (members out m)) z)
          go (inr f) = ap (λ (b : Bool). eqb (part parts m) q && not b) (ins.are m ∙ ap (λ (b : Bool). b || members out m) (ne_eqb m n f))

      inside_here : (m : ℕ) → inside parts out' (part parts n) m ≡ (not (eqb m n) && inside parts out (part parts n) m)
      inside_here m = shuffle (eqb (part parts m) (part parts n)) (eqb m n) (members out m) (members out' m) (ins.are m)
        where
          shuffle : (a b x y : Bool) → y ≡ (b || x) → (a && not y) ≡ (not b && (a && not x))
          shuffle true true x y e = ap not e
          shuffle true false x y e = ap not e
          shuffle false true x y e = refl
          shuffle false false x y e = refl

      sized : Sized g parts out' sizes'
      sized q = go (cases_eq (part parts n) q)
        where
          go : (part parts n ≡ q) ⊎ (part parts n ≡ q → ⊥) → get_or sizes' q 0 ≡ count (inside parts out' q) (length g)
          go (inl e) = subst (λ (k : ℕ). get_or sizes' k 0 ≡ count (inside parts out' k) (length g)) e
              (let a = get_or-set_same sizes (part parts n) (get_or sizes (part parts n) 0 - 1) 0 sizes_long in
              let b = count_without (inside parts out (part parts n)) (inside parts out' (part parts n)) n (length g) here was_inside inside_here in
              let c = taken.sized (part parts n) in
              omega arith)
          go (inr d) = get_or-set_other sizes (part parts n) q (get_or sizes (part parts n) 0 - 1) 0 (λ e. d (sym e)) ∙ taken.sized q ∙ sym (count_same (inside parts out' q) (inside parts out q) (length g) (λ j h. inside_other q d j))

      pub taken_more : Taken g parts sizes' list' out' (many + 1)
      taken_more = record {
        sized = sized;
        counted = more_out;
        places = λ j h. places j h (cases_eq j many);
        are_out = λ j h. are_out j h (cases_eq j many);
        listed = λ m x. listed m (is_out m x);
        once = λ j k h l e. once j k h l (cases_eq k many) e;
      }
        where
          places : (j : ℕ) → j < many + 1 → (j ≡ many) ⊎ (j ≡ many → ⊥) → get_or list' j 0 < length g
          places j h (inl e) = omega (arith, ap (λ (k : ℕ). get_or list' k 0) e, now, here)
          places j h (inr d) = omega (arith, before j (omega arith), taken.places j (omega arith))

          are_out : (j : ℕ) → j < many + 1 → (j ≡ many) ⊎ (j ≡ many → ⊥) → In (members out') (get_or list' j 0)
          are_out j h (inl e) = subst (In (members out')) (sym (ap (λ (k : ℕ). get_or list' k 0) e ∙ now)) came
          are_out j h (inr d) = subst (In (members out')) (sym (before j (omega arith))) (kept _ (taken.are_out j (omega arith)))

          listed : (m : ℕ) → (m ≡ n) ⊎ In (members out) m → (j : ℕ) × (j < many + 1) × (get_or list' j 0 ≡ m)
          listed m (inl e) = (many, omega arith, now ∙ sym e)
          listed m (inr x) = let t = taken.listed m x in (t.0, omega (arith, t.1), before t.0 t.1 ∙ t.2)

          once : (j k : ℕ) → j < k → k < many + 1 → (k ≡ many) ⊎ (k ≡ many → ⊥) → get_or list' j 0 ≡ get_or list' k 0 → ⊥
          once j k h l (inl e) s =
              let a : get_or list j 0 ≡ n = sym (before j (omega arith)) ∙ s ∙ ap (λ (i : ℕ). get_or list' i 0) e ∙ now in
              both_ways (members out n) in_part (T_true _ (subst (In (members out)) a (taken.are_out j (omega arith))))
          once j k h l (inr d) s = taken.once j k h (omega arith) (sym (before j (omega arith)) ∙ s ∙ before k (omega arith))

-- ---- those that may move to a place, one after the other

pub from_may : {g : Game} {to : ℕ} {froms : List ℕ} → Preds g to froms → (k : ℕ) → k < length froms → May g (get_or froms k 0) to
from_may {froms = froms} p k h = (p.may (get_or froms k 0)).0 (at_among froms k h)

pub from_inside : {g : Game} {to : ℕ} {froms : List ℕ} → Preds g to froms → (k : ℕ) → k < length froms → get_or froms k 0 < length g
from_inside {g} {to} {froms} p k h = from_place g (get_or froms k 0) to (from_may p k h)

pub record Taking (g : Game) (to : ℕ) (parts before froms : List ℕ) (i : ℕ) (sizes list out : List ℕ) (many : ℕ) : Type 0 where
  pub taken : Taken g parts sizes list out many
  pub came : (k : ℕ) → k < i → In (members out) (get_or froms k 0)
  pub which : (n : ℕ) → In (members out) n → In (members before) n ⊎ May g n to
  pub kept : (n : ℕ) → In (members before) n → In (members out) n

pub taking_none : {g : Game} {to : ℕ} {parts sizes list out : List ℕ} {many : ℕ} (froms : List ℕ) → Taken g parts sizes list out many → Taking g to parts out froms 0 sizes list out many
taking_none froms taken = record { taken = taken; came = λ k h. absurd (omega arith); which = λ n x. inl x; kept = λ n x. x }

module _ {g : Game} {to : ℕ} {parts before froms sizes list out : List ℕ} {many : ℕ} (preds : Preds g to froms) (i : ℕ) (more : i < length froms) (so_far : Taking g to parts before froms i sizes list out many) where
  abbrev from : ℕ
  from = get_or froms i 0

  came_more : (out' : List ℕ) → ((m : ℕ) → In (members out) m → In (members out') m) → In (members out') from → (k : ℕ) → (k ≡ i) ⊎ (k ≡ i → ⊥) → k < i + 1 → In (members out') (get_or froms k 0)
  came_more out' keeps x k (inl e) h = subst (λ (j : ℕ). In (members out') (get_or froms j 0)) (sym e) x
  came_more out' keeps x k (inr d) h = keeps _ (so_far.came k (omega arith))

  pub taking_had : members out from ≡ true → Taking g to parts before froms (i + 1) sizes list out many
  taking_had e = record {
    taken = so_far.taken;
    came = λ k h. came_more out (λ m x. x) (true_T _ e) k (cases_eq k i) h;
    which = so_far.which;
    kept = so_far.kept;
  }

  pub taking_new : (e : members out from ≡ false) {out' : List ℕ} (ins : Inserted out from out') → part parts from < length sizes → length g ≤ length list →
      Taking g to parts before froms (i + 1) (set sizes (part parts from) (get_or sizes (part parts from) 0 - 1)) (set list many from) out' (many + 1)
  taking_new e {out'} ins sizes_long list_long =
      let here = from_inside preds i more in
      let few = few_out so_far.taken from here e ins in
      record {
        taken = taken_more so_far.taken from here e ins sizes_long (omega arith);
        came = λ k h. came_more out' (kept so_far.taken from here e ins) (came so_far.taken from here e ins) k (cases_eq k i) h;
        which = λ n x. which_more n (is_out so_far.taken from here e ins n x);
        kept = λ n x. kept so_far.taken from here e ins n (so_far.kept n x);
      }
    where
      which_more : (n : ℕ) → (n ≡ from) ⊎ In (members out) n → In (members before) n ⊎ May g n to
      which_more n (inl s) = inr (subst (λ (m : ℕ). May g m to) (sym s) (from_may preds i more))
      which_more n (inr x) = so_far.which n x

pub taking_all : {g : Game} {to : ℕ} {parts before froms sizes list out : List ℕ} {many i : ℕ} → Preds g to froms → Taking g to parts before froms i sizes list out many → length froms ≤ i → (n : ℕ) → May g n to → In (members out) n
taking_all {froms = froms} {out = out} preds k done n may =
    let t = among_at n froms ((preds.may n).1 may) in
    subst (In (members out)) t.2 (k.came t.0 (omega (arith, t.1)))

-- ---- those that may move to a place of a list

pub record TakingAll (g : Game) (parts fresh : List ℕ) (i : ℕ) (sizes list out : List ℕ) (many : ℕ) : Type 0 where
  pub taken : Taken g parts sizes list out many
  pub came : (n j : ℕ) → j < i → May g n (get_or fresh j 0) → In (members out) n
  pub which : (n : ℕ) → In (members out) n → (j : ℕ) × (j < i) × May g n (get_or fresh j 0)

pub takings_none : {g : Game} {parts sizes out : List ℕ} (fresh list : List ℕ) → Sized g parts out sizes → Nothing out → TakingAll g parts fresh 0 sizes list out 0
takings_none fresh list sized none = record { taken = taken_none list sized none; came = λ n j h m. absurd (omega arith); which = λ n x. absurd (none n x) }

pub takings_more : {g : Game} {parts fresh sizes list out sizes' list' out' : List ℕ} {i many many' : ℕ} → TakingAll g parts fresh i sizes list out many → Taken g parts sizes' list' out' many'
    → ((n : ℕ) → May g n (get_or fresh i 0) → In (members out') n) → ((n : ℕ) → In (members out') n → In (members out) n ⊎ May g n (get_or fresh i 0)) → ((n : ℕ) → In (members out) n → In (members out') n)
    → TakingAll g parts fresh (i + 1) sizes' list' out' many'
takings_more {g} {fresh = fresh} {out = out} {out' = out'} {i = i} so_far taken came which kept = record {
  taken = taken;
  came = λ n j h may. came_to n j h may (cases_eq j i);
  which = λ n x. from n (which n x);
}
  where
    came_to : (n j : ℕ) → j < i + 1 → May g n (get_or fresh j 0) → (j ≡ i) ⊎ (j ≡ i → ⊥) → In (members out') n
    came_to n j h may (inl e) = came n (subst (λ (k : ℕ). May g n (get_or fresh k 0)) e may)
    came_to n j h may (inr d) = kept n (so_far.came n j (omega arith) may)

    from : (n : ℕ) → In (members out) n ⊎ May g n (get_or fresh i 0) → (j : ℕ) × (j < i + 1) × May g n (get_or fresh j 0)
    from n (inl x) = let t = so_far.which n x in (t.0, omega (arith, t.1), t.2)
    from n (inr m) = (i, omega arith, m)

-- ---- as code cuts the lists

module _ {g : Game} {parts sizes list out : List ℕ} {many : ℕ} (taken : Taken g parts sizes list out many) where
  pub taken_few : many ≤ length g
  taken_few = let a = taken.counted in let b = count_le (members out) (length g) in omega arith

  pub taken_front : many ≤ length list → Taken g parts sizes (take many list) out (length (take many list))
  taken_front h = record {
    sized = taken.sized;
    counted = taken.counted ∙ sym long;
    places = λ j l. subst (λ (n : ℕ). n < length g) (sym (at j (omega (arith, long)))) (taken.places j (omega (arith, long)));
    are_out = λ j l. subst (In (members out)) (sym (at j (omega (arith, long)))) (taken.are_out j (omega (arith, long)));
    listed = λ n x. let t = taken.listed n x in (t.0, omega (arith, t.1, long), at t.0 t.1 ∙ t.2);
    once = λ j k l b e. taken.once j k l (omega (arith, long)) (sym (at j (omega (arith, long))) ∙ e ∙ at k (omega (arith, long)));
  }
    where
      long : length (take many list) ≡ many
      long = length-take-le many list h

      at : (j : ℕ) → j < many → get_or (take many list) j 0 ≡ get_or list j 0
      at j l = get_or-take many list j 0 l
