-- Places put in again, one after the other.
use Rattle.std.proofs.Common.{◌≡◌, ℕ, ◌+◌, ◌<◌, ◌≤◌, Bool, true, false, not, ◌&&◌, ◌||◌, T, eqb, eqb→eq, max, ◌⊎◌, List, length, get_or, set, sym, refl, ap, ◌∙◌, subst, inl, inr, arith}
use Rattle.std.proofs.lemmas.List.{get_or-set_same, get_or-set_other, length-set}
use Rattle.std.proofs.lemmas.Bool.{cases_eq, cases_lt, both_ways, eq-eqb, ne_eqb}
use Rattle.endless.specs.Games.{Game}
use Rattle.endless.specs.Sets.{In}
use Rattle.endless.specs.Bits.{members, count, Removed}
use Rattle.endless.proofs.CountLaws.{count_le, count_same, count_with, count_some, count_none}
use Rattle.endless.proofs.Tests.{true_T, T_true, both, from_both}
use Rattle.endless.proofs.Pigeonhole.{pigeonhole}
use Rattle.quotient.specs.Gathering.{Nothing}
use Rattle.quotient.specs.Refining.{part, Same, Grouped}
use Rattle.quotient.specs.Rounds.{inside, Sized, Taken, Fresh, Named, Parting}
use Rattle.quotient.proofs.Sames.{same_self, same_back, same_then}

-- how many of the first n places are in part q, and not out
abbrev held : List ℕ → List ℕ → ℕ → ℕ → ℕ
held parts out q n = count (inside parts out q) n

-- there are no more parts than places
pub named_few : {g : Game} {parts : List ℕ} {many : ℕ} → Named g parts many → many ≤ length g
named_few {g} {parts} {many} named = go (cases_lt (length g) many)
  where
    some : (q : ℕ) → (q < many) ⊎ (many ≤ q) → (n : ℕ) × (q < many → (n < length g) × (part parts n ≡ q))
    some q (inl h) = let t = named.place q h in (t.0, λ z. (t.1, t.2))
    some q (inr h) = (0, λ z. absurd (omega arith))

    place : ℕ → ℕ
    place q = (some q (cases_lt q many)).0

    go : (length g < many) ⊎ (many ≤ length g) → many ≤ length g
    go (inr h) = h
    go (inl h) =
        let t = pigeonhole (length g) place (λ i l. ((some i (cases_lt i many)).1 (omega arith)).0) in
        let a : part parts (place t.0) ≡ t.0 = ((some t.0 (cases_lt t.0 many)).1 (omega (arith, t.2, t.3))).1 in
        let b : part parts (place t.1) ≡ t.1 = ((some t.1 (cases_lt t.1 many)).1 (omega (arith, t.3))).1 in
        let e : part parts (place t.0) ≡ part parts (place t.1) = ap (part parts) t.4 in
        absurd (omega (arith, t.2, a, b, e))

-- the first i places of the list are in again; `old` are the parts before, and `count` how many these are
pub record Returning (g : Game) (old list : List ℕ) (count i : ℕ) (parts sizes fresh out : List ℕ) (many listed : ℕ) : Type 0 where
  pub sized : Sized g parts out sizes
  pub out_is : (n : ℕ) → In (members out) n → (j : ℕ) × (i ≤ j) × (j < length list) × (get_or list j 0 ≡ n)
  pub still : (j : ℕ) → i ≤ j → j < length list → In (members out) (get_or list j 0)
  pub stays : (n : ℕ) → ((j : ℕ) → j < i → get_or list j 0 ≡ n → ⊥) → part parts n ≡ part old n
  pub one : (j k : ℕ) → j < i → k < i → Same g old (get_or list j 0) (get_or list k 0) → part parts (get_or list j 0) ≡ part parts (get_or list k 0)
  pub own : (j n : ℕ) → j < i → n < length g → (In (members out) n → ⊥) → part parts n ≡ part parts (get_or list j 0) → ((k : ℕ) × (k < length list) × (get_or list k 0 ≡ n)) × Same g old n (get_or list j 0)
  pub keeps : (j : ℕ) → j < i → part parts (get_or list j 0) < count → part parts (get_or list j 0) ≡ part old (get_or list j 0)
  pub filled : (j : ℕ) → j < i → (n : ℕ) × (n < length g) × (In (members out) n → ⊥) × (part parts n ≡ part old (get_or list j 0))
  pub named : Named g parts many
  pub fresh_are : Fresh g parts fresh count listed
  pub few : listed ≤ i
  pub more : count ≤ many

pub returning_none : {g : Game} {parts sizes list out : List ℕ} {count : ℕ} (fresh : List ℕ) → Taken g parts sizes list out (length list) → Named g parts count → Returning g parts list count 0 parts sizes fresh out count 0
returning_none {g} {parts} {count = count} fresh taken named = record {
  sized = taken.sized;
  out_is = λ n x. let t = taken.listed n x in (t.0, omega arith, t.1, t.2);
  still = λ j h l. taken.are_out j l;
  stays = λ n d. refl;
  one = λ j k h. absurd (omega arith);
  own = λ j n h. absurd (omega arith);
  keeps = λ j h. absurd (omega arith);
  filled = λ j h. absurd (omega arith);
  named = named;
  fresh_are = record {
    few = omega arith;
    places = λ j h. absurd (omega arith);
    new = λ j h. absurd (omega arith);
    all = λ n h l. let b = named.below n h in absurd (omega arith);
  };
  few = omega arith;
  more = omega arith;
}

-- a number for the next place of the list
pub record Fits (g : Game) (old list : List ℕ) (count i : ℕ) (parts out : List ℕ) (many number : ℕ) : Type 0 where
  pub one : (j : ℕ) → j < i → Same g old (get_or list j 0) (get_or list i 0) → part parts (get_or list j 0) ≡ number
  pub own : (n : ℕ) → n < length g → (In (members out) n → ⊥) → part parts n ≡ number → ((k : ℕ) × (k < length list) × (get_or list k 0 ≡ n)) × Same g old n (get_or list i 0)
  pub keeps : number < count → number ≡ part old (get_or list i 0)
  pub filled : (number ≡ part old (get_or list i 0)) ⊎ ((n : ℕ) × (n < length g) × (In (members out) n → ⊥) × (part parts n ≡ part old (get_or list i 0)))
  pub low : number ≤ many

module _ {g : Game} {old list sizes₀ out₀ parts sizes fresh out : List ℕ} {count i many listed : ℕ} (taken : Taken g old sizes₀ list out₀ (length list)) (so_far : Returning g old list count i parts sizes fresh out many listed) (more : i < length list) where
  abbrev pub this : ℕ
  this = get_or list i 0

  pub here : this < length g
  here = taken.places i more

  -- the places before it are others, and in
  other : (j : ℕ) → j < i → get_or list j 0 ≡ this → ⊥
  other j h e = taken.once j i h more e

  in_again : (j : ℕ) → j < i → In (members out) (get_or list j 0) → ⊥
  in_again j h x = let t = so_far.out_is _ x in taken.once j t.0 (omega (arith, t.1)) t.2 (sym t.3)

  pub same_part : part parts this ≡ part old this
  same_part = so_far.stays this (λ j h e. other j h e)

  -- the number of a place that is in and from which the next is not told apart
  pub fits_led : (lead : ℕ) → lead < i → Same g old this (get_or list lead 0) → Fits g old list count i parts out many (part parts (get_or list lead 0))
  fits_led lead h s = record {
    one = λ j l t. so_far.one j lead l h (same_then t s);
    own = λ n l d e. let t = so_far.own lead n h l d e in (t.0, same_then t.1 (same_back s));
    keeps = λ l. so_far.keeps lead h l ∙ sym s.one_part;
    filled = inr (let t = so_far.filled lead h in (t.0, t.1, t.2, t.3 ∙ sym s.one_part));
    low = let b = so_far.named.below (get_or list lead 0) (taken.places lead (omega arith)) in omega arith;
  }

  -- the next is told apart from those that are in
  module _ (apart : (j : ℕ) → j < i → Same g old (get_or list j 0) this → ⊥) where
    none_inside : get_or sizes (part parts this) 0 ≡ 0 → (n : ℕ) → n < length g → (In (members out) n → ⊥) → part parts n ≡ part parts this → ⊥
    none_inside z n l d e =
        let none : inside parts out (part parts this) n ≡ false = count_none (inside parts out (part parts this)) (length g) (sym (so_far.sized (part parts this)) ∙ z) n l in
        is_inside (members out n) d none
      where
        is_inside : (b : Bool) → (T b → ⊥) → (eqb (part parts n) (part parts this) && not b) ≡ false → ⊥
        is_inside true out_of x = out_of tt
        is_inside false out_of x = both_ways _ x (ap (λ (c : Bool). c && true) (eq-eqb (part parts n) (part parts this) e))

    -- its part has no other place left, and it keeps the number
    pub fits_own : get_or sizes (part parts this) 0 ≡ 0 → Fits g old list count i parts out many (part parts this)
    fits_own z = record {
      one = λ j l t. absurd (apart j l t);
      own = λ n l d e. absurd (none_inside z n l d e);
      keeps = λ l. same_part;
      filled = inl same_part;
      low = let b = so_far.named.below this here in omega arith;
    }

    -- and else it gets the next number
    pub fits_next : (get_or sizes (part parts this) 0 ≡ 0 → ⊥) → Fits g old list count i parts out many many
    fits_next z = record {
      one = λ j l t. absurd (apart j l t);
      own = λ n l d e. let b = so_far.named.below n l in absurd (omega arith);
      keeps = λ l. let m = so_far.more in absurd (omega arith);
      filled = inr (let t = count_some (inside parts out (part parts this)) (length g) (let a = so_far.sized (part parts this) in omega arith) in (t.0, t.1, left t.0 t.2, part_is t.0 t.2 ∙ same_part));
      low = omega arith;
    }
      where
        left : (n : ℕ) → inside parts out (part parts this) n ≡ true → In (members out) n → ⊥
        left n e x = not_both (members out n) (both (eqb (part parts n) (part parts this)) (not (members out n)) (true_T _ e)).1 x
          where
            not_both : (b : Bool) → T (not b) → T b → ⊥
            not_both true a b = a
            not_both false a b = b

        part_is : (n : ℕ) → inside parts out (part parts this) n ≡ true → part parts n ≡ part parts this
        part_is n e = eqb→eq _ _ (both (eqb (part parts n) (part parts this)) (not (members out n)) (true_T _ e)).0

  module _ {number : ℕ} (fits : Fits g old list count i parts out many number) {out' : List ℕ} (rem : Removed out this out') (parts_long : length parts ≡ length g) (sizes_long : length g < length sizes) where
    abbrev pub parts' : List ℕ
    parts' = set parts this number

    abbrev pub sizes' : List ℕ
    sizes' = set sizes number (get_or sizes number 0 + 1)

    abbrev pub many' : ℕ
    many' = max many (number + 1)

    now : part parts' this ≡ number
    now = get_or-set_same parts this number 0 (omega (arith, here))

    else_where : (n : ℕ) → (n ≡ this → ⊥) → part parts' n ≡ part parts n
    else_where n d = get_or-set_other parts this n number 0 d

    was_out : members out this ≡ true
    was_out = T_true _ (so_far.still i (omega arith) more)

    is_in : (n : ℕ) → (In (members out') n → ⊥) → (n ≡ this → ⊥) → In (members out) n → ⊥
    is_in n d e x = d (subst T (sym (rem.are n)) (from_both (not (eqb n this)) (members out n) (subst (λ (b : Bool). T (not b)) (sym (ne_eqb n this e)) tt) x))

    still_in : (n : ℕ) → (In (members out) n → ⊥) → In (members out') n → ⊥
    still_in n d x = d (both (not (eqb n this)) (members out n) (subst T (rem.are n) x)).1

    this_in : In (members out') this → ⊥
    this_in x = subst (λ (b : Bool). T (not b)) (eq-eqb this this refl) (both (not (eqb this this)) (members out this) (subst T (rem.are this) x)).0

    which : (j : ℕ) → j < i + 1 → (j ≡ i → ⊥) → j < i
    which j h d = omega arith

    list_else : (j : ℕ) → j < i → part parts' (get_or list j 0) ≡ part parts (get_or list j 0)
    list_else j h = else_where _ (other j h)

    list_now : (j : ℕ) → j ≡ i → part parts' (get_or list j 0) ≡ number
    list_now j e = ap (λ (k : ℕ). part parts' (get_or list k 0)) e ∙ now

    -- an in place that is not the next one
    old_in : (n : ℕ) → (n ≡ this → ⊥) → (In (members out') n → ⊥) → In (members out) n → ⊥
    old_in n e d x = is_in n d e x

    sized : Sized g parts' out' sizes'
    sized q = go (cases_eq number q)
      where
        other_place : (m : ℕ) → (m ≡ this → ⊥) → inside parts' out' q m ≡ inside parts out q m
        other_place m d =
            ap (λ (k : ℕ). eqb k q && not (members out' m)) (else_where m d)
            ∙ ap (λ (b : Bool). eqb (part parts m) q && not b) (rem.are m ∙ ap (λ (b : Bool). not b && members out m) (ne_eqb m this d))

        before : inside parts out q this ≡ false
        before = go_out (eqb (part parts this) q) (members out this) was_out
          where
            go_out : (a b : Bool) → b ≡ true → (a && not b) ≡ false
            go_out true b e = ap not e
            go_out false b e = refl

        after : (b : Bool) → eqb number q ≡ b → inside parts' out' q this ≡ b
        after b e =
            ap (λ (k : ℕ). eqb k q && not (members out' this)) now
            ∙ ap (λ (c : Bool). eqb number q && not c) (rem.are this ∙ ap (λ (c : Bool). not c && members out this) (eq-eqb this this refl))
            ∙ ap (λ (c : Bool). c && true) e ∙ and_true b
          where
            and_true : (c : Bool) → (c && true) ≡ c
            and_true true = refl
            and_true false = refl

        go : (number ≡ q) ⊎ (number ≡ q → ⊥) → get_or sizes' q 0 ≡ held parts' out' q (length g)
        go (inl e) =
            let a : get_or sizes' number 0 ≡ get_or sizes number 0 + 1 = get_or-set_same sizes number (get_or sizes number 0 + 1) 0 (let b = named_few so_far.named in let l = fits.low in omega arith) in
            let c : held parts' out' q (length g) ≡ held parts out q (length g) + 1 = count_with (inside parts out q) (inside parts' out' q) this (length g) here before (λ m. with_this m (cases_eq m this)) in
            let d : get_or sizes q 0 ≡ held parts out q (length g) = so_far.sized q in
            ap (λ (k : ℕ). get_or sizes' k 0) (sym e) ∙ a ∙ ap (λ (k : ℕ). k + 1) (ap (λ (k : ℕ). get_or sizes k 0) e ∙ d) ∙ sym c
          where
            with_this : (m : ℕ) → (m ≡ this) ⊎ (m ≡ this → ⊥) → inside parts' out' q m ≡ (eqb m this || inside parts out q m)
            with_this m (inl s) = ap (inside parts' out' q) s ∙ after true (eq-eqb number q e) ∙ sym (ap (λ (b : Bool). b || inside parts out q m) (eq-eqb m this s))
            with_this m (inr d) = other_place m d ∙ sym (ap (λ (b : Bool). b || inside parts out q m) (ne_eqb m this d))
        go (inr d) =
            get_or-set_other sizes number q (get_or sizes number 0 + 1) 0 (λ e. d (sym e)) ∙ so_far.sized q
            ∙ sym (count_same (inside parts' out' q) (inside parts out q) (length g) (λ m h. same m (cases_eq m this)))
          where
            same : (m : ℕ) → (m ≡ this) ⊎ (m ≡ this → ⊥) → inside parts' out' q m ≡ inside parts out q m
            same m (inl s) = ap (inside parts' out' q) s ∙ after false (ne_eqb number q d) ∙ sym (ap (inside parts out q) s ∙ before)
            same m (inr e) = other_place m e

    filled : (j : ℕ) → j < i + 1 → (j ≡ i) ⊎ (j ≡ i → ⊥) → (n : ℕ) × (n < length g) × (In (members out') n → ⊥) × (part parts' n ≡ part old (get_or list j 0))
    filled j h (inr d) =
        let t = so_far.filled j (which j h d) in
        (t.0, t.1, still_in t.0 t.2, else_where t.0 (λ e. t.2 (subst (In (members out)) (sym e) (so_far.still i (omega arith) more))) ∙ t.3)
    filled j h (inl e) = go fits.filled
      where
        old_is : part old this ≡ part old (get_or list j 0)
        old_is = ap (λ (k : ℕ). part old (get_or list k 0)) (sym e)

        go : (number ≡ part old this) ⊎ ((n : ℕ) × (n < length g) × (In (members out) n → ⊥) × (part parts n ≡ part old this)) → (n : ℕ) × (n < length g) × (In (members out') n → ⊥) × (part parts' n ≡ part old (get_or list j 0))
        go (inl s) = (this, here, this_in, now ∙ s ∙ old_is)
        go (inr t) = (t.0, t.1, still_in t.0 t.2, else_where t.0 (λ s. t.2 (subst (In (members out)) (sym s) (so_far.still i (omega arith) more))) ∙ t.3 ∙ old_is)

    named : Named g parts' many'
    named = record { below = λ n h. below n h (cases_eq n this); place = λ q h. place q h (cases_lt q many) }
      where
        below : (n : ℕ) → n < length g → (n ≡ this) ⊎ (n ≡ this → ⊥) → part parts' n < many'
        below n h (inl e) = let z = ap (part parts') e ∙ now in omega arith
        below n h (inr d) = let z = else_where n d in let b = so_far.named.below n h in omega arith

        place : (q : ℕ) → q < many' → (q < many) ⊎ (many ≤ q) → (n : ℕ) × (n < length g) × (part parts' n ≡ q)
        place q h (inr l) = let low = fits.low in let e : number ≡ q = omega arith in (this, here, now ∙ e)
        place q h (inl l) = go (so_far.named.place q l) (cases_eq (so_far.named.place q l).0 this)
          where
            go : (t : (n : ℕ) × (n < length g) × (part parts n ≡ q)) → (t.0 ≡ this) ⊎ (t.0 ≡ this → ⊥) → (n : ℕ) × (n < length g) × (part parts' n ≡ q)
            go t (inr d) = (t.0, t.1, else_where t.0 d ∙ t.2)
            go t (inl e) =
                let f = filled i (omega arith) (inl refl) in
                (f.0, f.1, f.3 ∙ sym same_part ∙ ap (part parts) (sym e) ∙ t.2)

    few' : many' ≤ length g
    few' = named_few named

    out_is : (n : ℕ) → In (members out') n → (j : ℕ) × (i + 1 ≤ j) × (j < length list) × (get_or list j 0 ≡ n)
    out_is n x =
        let t = both (not (eqb n this)) (members out n) (subst T (rem.are n) x) in
        let o = so_far.out_is n t.1 in
        go o t.0 (cases_eq o.0 i)
      where
        go : (o : (j : ℕ) × (i ≤ j) × (j < length list) × (get_or list j 0 ≡ n)) → T (not (eqb n this)) → (o.0 ≡ i) ⊎ (o.0 ≡ i → ⊥) → (j : ℕ) × (i + 1 ≤ j) × (j < length list) × (get_or list j 0 ≡ n)
        go o d (inl e) = absurd (subst (λ (b : Bool). T (not b)) (eq-eqb n this (sym o.3 ∙ ap (λ (k : ℕ). get_or list k 0) e)) d)
        go o d (inr f) = (o.0, omega (arith, o.1), o.2, o.3)

    still : (j : ℕ) → i + 1 ≤ j → j < length list → In (members out') (get_or list j 0)
    still j h l = subst T (sym (rem.are (get_or list j 0))) (from_both (not (eqb (get_or list j 0) this)) (members out (get_or list j 0))
        (subst (λ (b : Bool). T (not b)) (sym (ne_eqb (get_or list j 0) this (λ e. taken.once i j (omega arith) l (sym e)))) tt) (so_far.still j (omega arith) l))

    one : (j k : ℕ) → j < i + 1 → k < i + 1 → (j ≡ i) ⊎ (j ≡ i → ⊥) → (k ≡ i) ⊎ (k ≡ i → ⊥) → Same g old (get_or list j 0) (get_or list k 0) → part parts' (get_or list j 0) ≡ part parts' (get_or list k 0)
    one j k h l (inl d) (inl e) s = list_now j d ∙ sym (list_now k e)
    one j k h l (inr d) (inl e) s = list_else j (which j h d) ∙ fits.one j (which j h d) (subst (λ (m : ℕ). Same g old (get_or list j 0) (get_or list m 0)) e s) ∙ sym (list_now k e)
    one j k h l (inl d) (inr e) s = list_now j d ∙ sym (list_else k (which k l e) ∙ fits.one k (which k l e) (same_back (subst (λ (m : ℕ). Same g old (get_or list m 0) (get_or list k 0)) d s)))
    one j k h l (inr d) (inr e) s = list_else j (which j h d) ∙ so_far.one j k (which j h d) (which k l e) s ∙ sym (list_else k (which k l e))

    abbrev Own : ℕ → ℕ → Type 0
    Own j n = ((k : ℕ) × (k < length list) × (get_or list k 0 ≡ n)) × Same g old n (get_or list j 0)

    own : (j n : ℕ) → j < i + 1 → n < length g → (In (members out') n → ⊥) → part parts' n ≡ part parts' (get_or list j 0) → (j ≡ i) ⊎ (j ≡ i → ⊥) → (n ≡ this) ⊎ (n ≡ this → ⊥) → Own j n
    own j n h l d s (inl e) (inl f) = ((i, more, sym f), subst (λ (m : ℕ). Same g old n m) (f ∙ ap (λ (k : ℕ). get_or list k 0) (sym e)) (same_self g old n))
    own j n h l d s (inl e) (inr f) =
        let t = fits.own n l (old_in n f d) (sym (else_where n f) ∙ s ∙ list_now j e) in
        (t.0, subst (λ (k : ℕ). Same g old n (get_or list k 0)) (sym e) t.1)
    own j n h l d s (inr e) (inl f) =
        let k = which j h e in
        let a : part parts (get_or list j 0) ≡ number = sym (list_else j k) ∙ sym s ∙ ap (part parts') f ∙ now in
        let t = fits.own (get_or list j 0) (taken.places j (omega arith)) (in_again j k) a in
        ((i, more, sym f), subst (λ (m : ℕ). Same g old m (get_or list j 0)) (sym f) (same_back t.1))
    own j n h l d s (inr e) (inr f) =
        let k = which j h e in
        so_far.own j n k l (old_in n f d) (sym (else_where n f) ∙ s ∙ list_else j k)

    keeps : (j : ℕ) → j < i + 1 → (j ≡ i) ⊎ (j ≡ i → ⊥) → part parts' (get_or list j 0) < count → part parts' (get_or list j 0) ≡ part old (get_or list j 0)
    keeps j h (inl e) l = list_now j e ∙ fits.keeps (let z = list_now j e in omega arith) ∙ ap (λ (k : ℕ). part old (get_or list k 0)) (sym e)
    keeps j h (inr d) l = let k = which j h d in list_else j k ∙ so_far.keeps j k (let z = list_else j k in omega arith)

    -- what does not depend on whether its part is new
    returning_with : {fresh' : List ℕ} {listed' : ℕ} → Fresh g parts' fresh' count listed' → listed' ≤ i + 1 → Returning g old list count (i + 1) parts' sizes' fresh' out' many' listed'
    returning_with fresh_are few = record {
      sized = sized;
      out_is = out_is;
      still = still;
      stays = λ n d. else_where n (λ e. d i (omega arith) (sym e)) ∙ so_far.stays n (λ j h e. d j (omega arith) e);
      one = λ j k h l s. one j k h l (cases_eq j i) (cases_eq k i) s;
      own = λ j n h l d s. own j n h l d s (cases_eq j i) (cases_eq n this);
      keeps = λ j h l. keeps j h (cases_eq j i) l;
      filled = λ j h. filled j h (cases_eq j i);
      named = named;
      fresh_are = fresh_are;
      few = few;
      more = let m = so_far.more in omega arith;
    }

    -- before, its part was no new one
    was_old : part parts this < count → (j : ℕ) → j < listed → get_or fresh j 0 ≡ this → ⊥
    was_old l j h e = let n = so_far.fresh_are.new j h in let z = ap (part parts) e in omega arith

    pub returning_old : part parts this < count → number < count → Returning g old list count (i + 1) parts' sizes' fresh out' many' listed
    returning_old was l = returning_with (record {
      few = f.few;
      places = f.places;
      new = λ j h. let z = else_where _ (was_old was j h) in let y = f.new j h in omega arith;
      all = λ n h k. all n h k (cases_eq n this);
    }) (let z = so_far.few in omega arith)
      where
        f : Fresh g parts fresh count listed
        f = so_far.fresh_are

        all : (n : ℕ) → n < length g → count ≤ part parts' n → (n ≡ this) ⊎ (n ≡ this → ⊥) → (j : ℕ) × (j < listed) × (get_or fresh j 0 ≡ n)
        all n h k (inl e) = let z = ap (part parts') e ∙ now in absurd (omega arith)
        all n h k (inr d) = f.all n h (let z = else_where n d in omega arith)

    abbrev fresh' : List ℕ
    fresh' = set fresh listed this

    pub returning_new : part parts this < count → count ≤ number → length g ≤ length fresh → length list ≤ length g → Returning g old list count (i + 1) parts' sizes' (set fresh listed this) out' many' (listed + 1)
    returning_new was l room short = returning_with (record {
      few = let z = length-set fresh listed this in let y = so_far.few in omega arith;
      places = λ j h. places j h (cases_eq j listed);
      new = λ j h. new j h (cases_eq j listed);
      all = λ n h k. all n h k (cases_eq n this);
    }) (let z = so_far.few in omega arith)
      where
        f : Fresh g parts fresh count listed
        f = so_far.fresh_are

        at_end : get_or fresh' listed 0 ≡ this
        at_end = get_or-set_same fresh listed this 0 (let y = so_far.few in omega arith)

        before : (j : ℕ) → (j ≡ listed → ⊥) → get_or fresh' j 0 ≡ get_or fresh j 0
        before j d = get_or-set_other fresh listed j this 0 d

        places : (j : ℕ) → j < listed + 1 → (j ≡ listed) ⊎ (j ≡ listed → ⊥) → get_or fresh' j 0 < length g
        places j h (inl e) = let z = ap (λ (k : ℕ). get_or fresh' k 0) e ∙ at_end in let y = here in omega arith
        places j h (inr d) = let z = before j d in let y = f.places j (omega arith) in omega arith

        new : (j : ℕ) → j < listed + 1 → (j ≡ listed) ⊎ (j ≡ listed → ⊥) → count ≤ part parts' (get_or fresh' j 0)
        new j h (inl e) = let z : part parts' (get_or fresh' j 0) ≡ number = ap (λ (k : ℕ). part parts' (get_or fresh' k 0)) e ∙ ap (part parts') at_end ∙ now in omega arith
        new j h (inr d) =
            let k : j < listed = omega arith in
            let z : part parts' (get_or fresh' j 0) ≡ part parts (get_or fresh j 0) = ap (part parts') (before j d) ∙ else_where _ (was_old was j k) in
            let y = f.new j k in
            omega arith

        all : (n : ℕ) → n < length g → count ≤ part parts' n → (n ≡ this) ⊎ (n ≡ this → ⊥) → (j : ℕ) × (j < listed + 1) × (get_or fresh' j 0 ≡ n)
        all n h k (inl e) = (listed, omega arith, at_end ∙ sym e)
        all n h k (inr d) =
            let t = f.all n h (let z = else_where n d in omega arith) in
            (t.0, omega (arith, t.1), before t.0 (λ s. omega (arith, t.1)) ∙ t.2)

-- all are in
pub returning_parting : {g : Game} {old list parts sizes fresh out : List ℕ} {count i many listed : ℕ} → length list ≤ i → i ≤ length list → Returning g old list count i parts sizes fresh out many listed → Parting g old list parts count
returning_parting done within k = record {
  stays = λ n d. k.stays n (λ j h e. d j (omega arith) e);
  one = λ j l h i s. k.one j l (omega arith) (omega arith) s;
  own = λ j n h l e. k.own j n (omega arith) l (λ x. let t = k.out_is n x in omega (arith, t.1, t.2)) e;
  keeps = λ j h l. k.keeps j (omega arith) l;
}

pub returning_none_out : {g : Game} {old list parts sizes fresh out : List ℕ} {count i many listed : ℕ} → length list ≤ i → Returning g old list count i parts sizes fresh out many listed → Nothing out
returning_none_out done k n x = let t = k.out_is n x in omega (arith, t.1, t.2)

-- ---- the number that is taken

module _ {g : Game} {old list made sizes₀ out₀ parts sizes fresh out : List ℕ} {count i many listed : ℕ} (taken : Taken g old sizes₀ list out₀ (length list)) (grouped : Grouped g old list made) (so_far : Returning g old list count i parts sizes fresh out many listed) (more : i < length list) where
  pub fits_number : (number : ℕ) → (part made i < i → number ≡ part parts (part list (part made i))) → (i ≤ part made i → get_or sizes (part parts (part list i)) 0 ≡ 0 → number ≡ part parts (part list i))
      → (i ≤ part made i → (get_or sizes (part parts (part list i)) 0 ≡ 0 → ⊥) → number ≡ many) → Fits g old list count i parts out many number
  fits_number number led own next = go (cases_lt (part made i) i) (cases_eq (get_or sizes (part parts (part list i)) 0) 0)
    where
      first : i ≤ part made i → part made i ≡ i
      first h = let l = grouped.low i more in omega arith

      apart : i ≤ part made i → (j : ℕ) → j < i → Same g old (get_or list j 0) (get_or list i 0) → ⊥
      apart h j l s =
          let e = grouped.one j i (omega arith) more s in
          let low = grouped.low j (omega arith) in
          let f = first h in
          omega arith

      is : (k : ℕ) → number ≡ k → Fits g old list count i parts out many k → Fits g old list count i parts out many number
      is k e f = subst (λ (m : ℕ). Fits g old list count i parts out many m) (sym e) f

      go : (part made i < i) ⊎ (i ≤ part made i) → (get_or sizes (part parts (part list i)) 0 ≡ 0) ⊎ (get_or sizes (part parts (part list i)) 0 ≡ 0 → ⊥) → Fits g old list count i parts out many number
      go (inl h) z = is _ (led h) (fits_led taken so_far more (part made i) h (grouped.same i more))
      go (inr h) (inl z) = is _ (own h z) (fits_own taken so_far more (apart h) z)
      go (inr h) (inr d) = is _ (next h d) (fits_next taken so_far more (apart h) d)

  -- the number and what it counts have room
  pub number_low : {number : ℕ} → Fits g old list count i parts out many number → number ≤ length g
  number_low f = let a = f.low in let b = named_few so_far.named in omega arith

  pub count_low : (q : ℕ) → get_or sizes q 0 ≤ length g
  count_low q = let a = so_far.sized q in let b = count_le (inside parts out q) (length g) in omega arith
