-- Numbers that are right from move to move are right in plays.
use Rattle.std.proofs.Common.{◌≡◌, ℕ, zero, suc, ◌+◌, ◌<◌, ◌≤◌, Bool, cond, eqb, ◌⊎◌, List, [], ◌∷◌, length, sym, refl, ap, ◌∙◌, subst, inl, inr, arith}
use Rattle.std.proofs.lemmas.Bool.{cases_eq, cases_lt, eq-eqb, ne_eqb}
use Rattle.endless.specs.Games.{Game, Reads, whose, May, Play, Plays, ByPlan, other}
use Rattle.endless.proofs.Places.{ok_size, side_below, from_place, to_place, is_other}
use Rattle.distance.specs.Sooner.{never, so_far, Moving, ByWay, ComesWithin, NotSooner, Takes, KeptOff, Numbers}
use Rattle.distance.specs.Spreading.{Measured}

-- a plan as what a side does, looking at all that has happened
abbrev by_plan : (ℕ → ℕ) → List ℕ → ℕ
by_plan plan [] = 0
by_plan plan (n ∷ ns) = plan n

by_plan_last : (plan : ℕ → ℕ) (f : Play) (i : ℕ) → by_plan plan (so_far f i) ≡ plan (f i)
by_plan_last plan f zero = refl
by_plan_last plan f (suc i) = refl

by_plan_moving : (g : Game) (w : ℕ) (plan : ℕ → ℕ) → ((m : ℕ) → m < length g → whose g m ≡ w → May g m (plan m)) → Moving g w (by_plan plan)
by_plan_moving g w plan may n ns l e = may n l e

way_plan : (g : Game) (w : ℕ) (plan : ℕ → ℕ) (f : Play) → ByWay g w (by_plan plan) f → ByPlan g w plan f
way_plan g w plan f b i e = b i e ∙ by_plan_last plan f i

module _ {s : List ℕ} {g : Game} (reads : Reads s g) {w target : ℕ} (two : w < 2) {number plan : ℕ → ℕ} (right : Measured g w target number plan) where
  few : length g ≤ 16384
  few = (ok_size s g reads).1

  below : (n : ℕ) → n < length g → (number n ≡ never → ⊥) → number n < length g
  below n l d = go (right.size n l)
    where
      go : (number n ≡ never) ⊎ (number n < length g) → number n < length g
      go (inl e) = absurd (d e)
      go (inr h) = h

  most : (n : ℕ) → n < length g → number n ≤ never
  most n l = go (right.size n l)
    where
      go : (number n ≡ never) ⊎ (number n < length g) → number n ≤ never
      go (inl e) = omega arith
      go (inr h) = omega (arith, few)

  -- by the plan the number falls at each move
  fall : (n m : ℕ) → May g n m → (whose g n ≡ w → m ≡ plan n) → number n < never → (n ≡ target → ⊥) → number m + 1 ≤ number n
  fall n m a b h d = go (cases_eq (whose g n) w)
    where
      go : (whose g n ≡ w) ⊎ (whose g n ≡ w → ⊥) → number m + 1 ≤ number n
      go (inl e) = let same : number m ≡ number (plan n) = ap number (b e) in omega (arith, right.falls n (from_place g n m a) h d)
      go (inr e) = right.forced n m (from_place g n m a) e h d a

  brings : (k : ℕ) (f : Play) → Plays g f → ByPlan g w plan f → number (f 0) ≤ k → k < never → (i : ℕ) × (i ≤ number (f 0)) × (f i ≡ target)
  brings zero f p b l h = (0, omega arith, right.at_zero (f 0) (from_place g (f 0) (f 1) (p 0)) (omega arith))
  brings (suc k) f p b l h = go (cases_eq (f 0) target) (brings k (λ i. f (suc i)) (λ i. p (suc i)) (λ i. b (suc i)))
    where
      go : (f 0 ≡ target) ⊎ (f 0 ≡ target → ⊥) → (number (f 1) ≤ k → k < never → (i : ℕ) × (i ≤ number (f 1)) × (f (suc i) ≡ target)) → (i : ℕ) × (i ≤ number (f 0)) × (f i ≡ target)
      go (inl e) ih = (0, omega arith, e)
      go (inr d) ih =
          let less = fall (f 0) (f 1) (p 0) (b 0) (omega arith) d in
          let t = ih (omega arith) (omega arith) in
          (suc t.0, omega (arith, t.1), t.2)

  pub comes : (n : ℕ) → n < length g → (number n ≡ never → ⊥) → ComesWithin g w target plan n (number n)
  comes n l d f p b e =
      let same : number (f 0) ≡ number n = ap number e in
      let t = brings (number n) f p b (omega arith) (omega (arith, below n l d, few)) in
      (t.0, omega (arith, t.1), t.2)

  -- a move of the other side's that leads as far as it can
  abbrev Far : ℕ → Type 0
  Far n = (m : ℕ) × (n < length g → May g n m) × (n < length g → (whose g n ≡ w → ⊥) → number n ≤ number m + 1) × (n < length g → (whose g n ≡ w → ⊥) → number n ≡ never → number m ≡ never)

  far : (n : ℕ) → Far n
  far n = go (cases_lt n (length g)) (cases_eq (whose g n) w) (cases_eq (number n) never)
    where
      lower : n < length g → (number n ≡ never → ⊥) → (n ≡ target) ⊎ (n ≡ target → ⊥) → number n ≤ number (plan n) + 1
      lower l d (inl e) = let z : number n ≡ number target = ap number e in omega (arith, right.zero_at)
      lower l d (inr x) = omega (arith, right.falls n l (omega (arith, below n l d, few)) x)

      go : (n < length g) ⊎ (length g ≤ n) → (whose g n ≡ w) ⊎ (whose g n ≡ w → ⊥) → (number n ≡ never) ⊎ (number n ≡ never → ⊥) → Far n
      go (inr h) o e = (0, λ l. absurd (omega arith), λ l. absurd (omega arith), λ l. absurd (omega arith))
      go (inl l) (inl o) e = (plan n, λ _. right.may n l, λ _ d. absurd (d o), λ _ d. absurd (d o))
      go (inl l) (inr o) (inl e) = let t = right.past n l o e in (t.0, λ _. t.1, λ _ _. omega (arith, t.2), λ _ _ _. t.2)
      go (inl l) (inr o) (inr e) = (plan n, λ _. right.may n l, λ _ _. lower l e (cases_eq n target), λ _ _ x. absurd (e x))

  abbrev reply : ℕ → ℕ
  reply n = (far n).0

  -- by it the number falls by at most one at each move, and stays where it is `never`
  slow : (n m : ℕ) → May g n m → ((whose g n ≡ w → ⊥) → m ≡ reply n) → (number n ≤ number m + 1) × (number n ≡ never → number m ≡ never)
  slow n m a b = go (cases_eq (whose g n) w)
    where
      here : n < length g
      here = from_place g n m a

      own : whose g n ≡ w → (number m ≡ never) ⊎ (number m < length g) → (number n ≤ number m + 1) × (number n ≡ never → number m ≡ never)
      own o (inl e) = (omega (arith, most n here), λ _. e)
      own o (inr h) = let l = right.own n m o a (omega (arith, few)) in (l, λ e. absurd (omega (arith, few)))

      go : (whose g n ≡ w) ⊎ (whose g n ≡ w → ⊥) → (number n ≤ number m + 1) × (number n ≡ never → number m ≡ never)
      go (inl o) = own o (right.size m (to_place reads n m a))
      go (inr o) = subst (λ (x : ℕ). (number n ≤ number x + 1) × (number n ≡ never → number x ≡ never)) (sym (b o)) ((far n).2 here o, (far n).3 here o)

  -- a play in which the other side goes by it
  abbrev Slowly : Play → Type 0
  Slowly f = (i : ℕ) → (whose g (f i) ≡ w → ⊥) → f (suc i) ≡ reply (f i)

  replied : (f : Play) → ByPlan g (other w) reply f → Slowly f
  replied f b i d = b i (is_other w (whose g (f i)) two (side_below reads (f i)) d)

  late : (f : Play) → Plays g f → Slowly f → (i : ℕ) → number (f 0) ≤ number (f i) + i
  late f p b zero = omega arith
  late f p b (suc i) = omega (arith, late f p b i, (slow (f i) (f (suc i)) (p i) (b i)).0)

  not_yet : (f : Play) → Plays g f → Slowly f → (i : ℕ) → i < number (f 0) → f i ≡ target → ⊥
  not_yet f p b i h e = let z : number (f i) ≡ number target = ap number e in omega (arith, late f p b i, right.zero_at)

  stuck : (f : Play) → Plays g f → Slowly f → number (f 0) ≡ never → (i : ℕ) → number (f i) ≡ never
  stuck f p b e zero = e
  stuck f p b e (suc i) = (slow (f i) (f (suc i)) (p i) (b i)).1 (stuck f p b e i)

  not_ever : (f : Play) → Plays g f → Slowly f → number (f 0) ≡ never → (i : ℕ) → f i ≡ target → ⊥
  not_ever f p b e i is = let z : number (f i) ≡ number target = ap number is in omega (arith, stuck f p b e i, right.zero_at)

  pub kept_off : KeptOff g w target number
  kept_off = (reply, λ n l. (far n).1 l, λ f p b. not_ever f p (replied f b), λ f p b. not_yet f p (replied f b))

  -- a play by that and by whatever w does: the place, and those before it
  module _ (way : List ℕ → ℕ) (moving : Moving g w way) (start : ℕ) (on : start < length g) where
    abbrev next : ℕ → List ℕ → ℕ
    next n ns = cond (eqb (whose g n) w) (way (n ∷ ns)) (reply n)

    abbrev state : ℕ → ℕ × List ℕ
    state zero = (start, [])
    state (suc i) = (next (state i).0 (state i).1, (state i).0 ∷ (state i).1)

    abbrev played : Play
    played i = (state i).0

    next_own : (n : ℕ) (ns : List ℕ) → whose g n ≡ w → next n ns ≡ way (n ∷ ns)
    next_own n ns e = ap (λ (b : Bool). cond b (way (n ∷ ns)) (reply n)) (eq-eqb (whose g n) w e)

    next_other : (n : ℕ) (ns : List ℕ) → (whose g n ≡ w → ⊥) → next n ns ≡ reply n
    next_other n ns d = ap (λ (b : Bool). cond b (way (n ∷ ns)) (reply n)) (ne_eqb (whose g n) w d)

    next_may : (n : ℕ) (ns : List ℕ) → n < length g → May g n (next n ns)
    next_may n ns l = go (cases_eq (whose g n) w)
      where
        go : (whose g n ≡ w) ⊎ (whose g n ≡ w → ⊥) → May g n (next n ns)
        go (inl e) = subst (May g n) (sym (next_own n ns e)) (moving n ns l e)
        go (inr d) = subst (May g n) (sym (next_other n ns d)) ((far n).1 l)

    on_board : (i : ℕ) → played i < length g
    on_board zero = on
    on_board (suc i) = to_place reads (state i).0 (state (suc i)).0 (next_may (state i).0 (state i).1 (on_board i))

    plays : Plays g played
    plays i = next_may (state i).0 (state i).1 (on_board i)

    row : (i : ℕ) → so_far played i ≡ (state i).0 ∷ (state i).1
    row zero = refl
    row (suc i) = ap (λ (l : List ℕ). played (suc i) ∷ l) (row i)

    by_way : ByWay g w way played
    by_way i e = next_own (state i).0 (state i).1 e ∙ ap way (sym (row i))

    slowly : Slowly played
    slowly i d = next_other (state i).0 (state i).1 d

  pub not_sooner : (n : ℕ) → n < length g → NotSooner g w target n (number n)
  not_sooner n l way moving k h = (played way moving n l, refl, plays way moving n l, by_way way moving n l, λ i x. not_yet (played way moving n l) (plays way moving n l) (slowly way moving n l) i (omega arith))

  -- the numbers are the only right ones
  pub only : (n d : ℕ) → n < length g → Takes g w target n d → number n ≡ d
  only n d l t = go (cases_eq (number n) never) (cases_lt d (number n)) (cases_lt (number n) d)
    where
      mine : Moving g w (by_plan plan)
      mine = by_plan_moving g w plan (λ m h e. right.may m h)

      theirs : Moving g w (by_plan t.plan)
      theirs = by_plan_moving g w t.plan t.may

      go : (number n ≡ never) ⊎ (number n ≡ never → ⊥) → (d < number n) ⊎ (number n ≤ d) → (number n < d) ⊎ (d ≤ number n) → number n ≡ d
      go (inl e) x y =
          let f = played (by_plan t.plan) theirs n l in
          let p = plays (by_plan t.plan) theirs n l in
          let c = t.comes f p (way_plan g w t.plan f (by_way (by_plan t.plan) theirs n l)) refl in
          absurd (not_ever f p (slowly (by_plan t.plan) theirs n l) e c.0 c.2)
      go (inr e) (inl x) y =
          let u = not_sooner n l (by_plan t.plan) theirs d x in
          let c = t.comes u.0 u.2 (way_plan g w t.plan u.0 u.3) u.1 in
          absurd (u.4 c.0 c.1 c.2)
      go (inr e) (inr x) (inl y) =
          let u = t.not_sooner (by_plan plan) mine (number n) y in
          let c = comes n l e u.0 u.2 (way_plan g w plan u.0 u.3) u.1 in
          absurd (u.4 c.0 c.1 c.2)
      go (inr e) (inr x) (inr y) = omega arith

  pub numbers : Numbers g w target number plan
  numbers = record { size = below; zero_at = right.zero_at; may = right.may; comes = comes; not_sooner = not_sooner; kept_off = kept_off; only = only }
