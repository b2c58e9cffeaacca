-- Two plans against one another, one for each side: the play by both comes again to where it was, and goes round from there.
use Rattle.std.proofs.Common.{◌≡◌, ℕ, zero, suc, ◌+◌, ◌-◌, ◌%◌, ◌<◌, ◌≤◌, T, eqb, ◌⊎◌, List, length, sym, refl, ap, ◌∙◌, subst, inl, inr, add-suc, arith, eqb→eq}
use Rattle.std.proofs.lemmas.Bool.{cases_eq, cases_lt}
use Rattle.endless.specs.Games.{Game, whose, weight, May, Play, Plays, ByPlan, Heaviest, other}
use Rattle.endless.specs.Says.{Round, heaviest, OneWins, WinnerWins}
use Rattle.endless.specs.Sets.{Each}
use Rattle.endless.proofs.Tests.{from_eq}
use Rattle.endless.proofs.Places.{from_place, to_place, side_below, is_other, not_other}
use Rattle.endless.proofs.Pigeonhole.{pigeonhole}
use Rattle.endless.proofs.Sets.{merge, merge_in, merge_out}
use Rattle.endless.proofs.Plays.{front, from, front_in, front_each, front_some, back_round}
use Rattle.endless.proofs.Rounds.{rounds_are_won}
use Rattle.endless.proofs.Within.{first_of}

-- where one goes by two plans
turn : Game → ℕ → (ℕ → ℕ) → (ℕ → ℕ) → ℕ → ℕ
turn g w a b = merge (λ n. eqb (whose g n) w) a b

turn_own : (g : Game) (w : ℕ) (a b : ℕ → ℕ) (n : ℕ) → whose g n ≡ w → turn g w a b n ≡ a n
unfolding turn
turn_own g w a b n e = merge_in (λ n. eqb (whose g n) w) a b n (from_eq (whose g n) w e)

turn_other : (g : Game) (w : ℕ) (a b : ℕ → ℕ) (n : ℕ) → (whose g n ≡ w → ⊥) → turn g w a b n ≡ b n
unfolding turn
turn_other g w a b n d = merge_out (λ n. eqb (whose g n) w) a b n (λ t. d (eqb→eq (whose g n) w t))

-- the play that is led by where one goes from each place
abbrev led : (ℕ → ℕ) → ℕ → Play
led go n zero = n
led go n (suc i) = go (led go n i)

-- a play that was at one place at two moments, with d moments between
module _ (go : ℕ → ℕ) (n i d : ℕ) (back : led go n i ≡ led go n (i + suc d)) where
  period : (x : ℕ) → led go n (i + (x + suc d)) ≡ led go n (i + x)
  period zero = let y : i + (0 + suc d) ≡ i + suc d = omega arith in let z : i ≡ i + 0 = omega arith in ap (led go n) y ∙ sym back ∙ ap (led go n) z
  period (suc x) =
      let y : i + (suc x + suc d) ≡ suc (i + (x + suc d)) = omega arith in
      let z : suc (i + x) ≡ i + suc x = omega arith in
      ap (led go n) y ∙ ap go (period x) ∙ ap (led go n) z

  -- whatever comes is one of the places between
  between : (t : ℕ) → (e : ℕ) × (e ≤ d) × (led go n (i + t) ≡ led go n (i + e))
  between zero = (0, omega arith, refl)
  between (suc t) = step (between t)
    where
      step : (e : ℕ) × (e ≤ d) × (led go n (i + t) ≡ led go n (i + e)) → (e : ℕ) × (e ≤ d) × (led go n (i + suc t) ≡ led go n (i + e))
      step u = last (cases_lt u.0 d)
        where
          next : led go n (i + suc t) ≡ led go n (i + suc u.0)
          next = ap (led go n) (add-suc i t) ∙ ap go u.2 ∙ ap (led go n) (sym (add-suc i u.0))

          last : (u.0 < d) ⊎ (d ≤ u.0) → (e : ℕ) × (e ≤ d) × (led go n (i + suc t) ≡ led go n (i + e))
          last (inl l) = (suc u.0, l, next)
          last (inr l) =
              let y : i + suc u.0 ≡ i + suc d = omega (arith, u.1) in
              let z : i ≡ i + 0 = omega arith in
              (0, omega arith, next ∙ ap (led go n) y ∙ sym back ∙ ap (led go n) z)

  -- and each of them comes again and again
  comes : (e t : ℕ) → (x : ℕ) × (t ≤ i + x) × (led go n (i + x) ≡ led go n (i + e))
  comes e zero = (e, omega arith, refl)
  comes e (suc t) = let u = comes e t in (u.0 + suc d, omega (arith, u.1), period u.0 ∙ u.2)

  led_heaviest : (g : Game) → Heaviest g (led go n) (heaviest g (front (from i (led go n)) d))
  led_heaviest g = record { from = i; none_heavier = most; again = more }
    where
      f : Play
      f = led go n

      most : (t : ℕ) → i ≤ t → weight g (f t) ≤ heaviest g (front (from i f) d)
      most t l =
          let u = between (t - i) in
          let y : t ≡ i + (t - i) = omega arith in
          let z : weight g (f t) ≡ weight g (f (i + u.0)) = ap (λ (x : ℕ). weight g (f x)) y ∙ ap (weight g) u.2 in
          omega (arith, z, front_each g d u.0 (from i f) u.1)

      more : (t : ℕ) → (j : ℕ) × (t ≤ j) × (weight g (f j) ≡ heaviest g (front (from i f) d))
      more t =
          let e = front_some g d (from i f) in
          let u = comes e.0 t in
          (i + u.0, u.1, ap (weight g) u.2 ∙ e.2)

-- both plans may be gone by where `in_both` holds, and stay there
module _ (g : Game) (w : ℕ) (a b : ℕ → ℕ) (in_both : ℕ → Type 0) (n : ℕ) (start : in_both n)
    (own : (m : ℕ) → in_both m → whose g m ≡ w → May g m (a m) × in_both (a m))
    (others : (m : ℕ) → in_both m → (whose g m ≡ w → ⊥) → May g m (b m) × in_both (b m)) where
  next : (m : ℕ) → in_both m → May g m (turn g w a b m) × in_both (turn g w a b m)
  next m x = go (cases_eq (whose g m) w)
    where
      go : (whose g m ≡ w) ⊎ (whose g m ≡ w → ⊥) → May g m (turn g w a b m) × in_both (turn g w a b m)
      go (inl e) = subst (λ (k : ℕ). May g m k × in_both k) (sym (turn_own g w a b m e)) (own m x e)
      go (inr e) = subst (λ (k : ℕ). May g m k × in_both k) (sym (turn_other g w a b m e)) (others m x e)

  led_in : (i : ℕ) → in_both (led (turn g w a b) n i)
  led_in zero = start
  led_in (suc i) = (next (led (turn g w a b) n i) (led_in i)).1

  led_plays : Plays g (led (turn g w a b) n)
  led_plays i = (next (led (turn g w a b) n i) (led_in i)).0

led_own : (g : Game) (w : ℕ) (a b : ℕ → ℕ) (n : ℕ) → ByPlan g w a (led (turn g w a b) n)
led_own g w a b n i e = turn_own g w a b (led (turn g w a b) n i) e

led_other : (g : Game) (w : ℕ) (a b : ℕ → ℕ) (n : ℕ) → w < 2 → ByPlan g (other w) b (led (turn g w a b) n)
led_other g w a b n l i e = turn_other g w a b (led (turn g w a b) n i) (λ d. not_other w (whose g (led (turn g w a b) n i)) l d e)

-- where and when a play comes to where it was
pub comes_back : (g : Game) (f : Play) → Plays g f → (i : ℕ) × (j : ℕ) × (i < j) × (f i ≡ f j)
comes_back g f p = let t = pigeonhole (length g) f (λ i l. from_place g (f i) (f (suc i)) (p i)) in (t.0, t.1, t.2, t.4)

-- places from which two plans, one for each side, may be gone by and stay among them: if each side's rounds there by its plan were of its kind, the round by both would be of both kinds
pub never_both : (g : Game) (w : ℕ) (a b : ℕ → ℕ) (in_both : ℕ → Type 0) (n : ℕ) → w < 2 → in_both n → ((m : ℕ) → in_both m → whose g m ≡ w → May g m (a m) × in_both (a m)) → ((m : ℕ) → in_both m → (whose g m ≡ w → ⊥) → May g m (b m) × in_both (b m)) →
    ((m : ℕ) (ns : List ℕ) → Each in_both ns → Round g w a m ns m → heaviest g ns % 2 ≡ w) → ((m : ℕ) (ns : List ℕ) → Each in_both ns → Round g (other w) b m ns m → heaviest g ns % 2 ≡ other w) → ⊥
never_both g w a b in_both n l start own others one two =
    let f = led (turn g w a b) n in
    let p = led_plays g w a b in_both n start own others in
    let t = comes_back g f p in
    let ns = front (from t.0 f) (t.1 - suc t.0) in
    let all = front_in in_both (t.1 - suc t.0) (from t.0 f) (λ i. led_in g w a b in_both n start own others (t.0 + i)) in
    not_other w (heaviest g ns % 2) l (one (f t.0) ns all (back_round g w a f t.0 t.1 p (led_own g w a b n) t.2 t.3)) (two (f t.0) ns all (back_round g (other w) b f t.0 t.1 p (led_other g w a b n l) t.2 t.3))

pub one_wins : OneWins
one_wins s g a b u v n r wa wb x y =
    never_both g 0 a b in_both n (omega arith) (x, y)
    (λ m z e. let t = wa.may m z.0 e in (t.0, (t.1, wb.held m (a m) z.1 (λ d. not_other 0 (whose g m) (omega arith) e d) t.0)))
    (λ m z e. let t = wb.may m z.1 (is_other 0 (whose g m) (omega arith) (side_below r m) e) in (t.0, (wa.held m (b m) z.0 e t.0, t.1)))
    (λ m ns z c. rounds_are_won s g 0 a u m ns r (omega arith) wa (first_of g 0 a in_both m ns m c z).0 c)
    (λ m ns z c. rounds_are_won s g 1 b v m ns r (omega arith) wb (first_of g 1 b in_both m ns m c z).1 c)
  where
    in_both : ℕ → Type 0
    in_both m = T (u m) × T (v m)

pub winner_wins : WinnerWins
winner_wins s g w plan reply won n r l wins legal h x =
    let f = led (turn g w plan reply) n in
    let own : (m : ℕ) → (m < length g) × T (won m) → whose g m ≡ w → May g m (plan m) × ((plan m < length g) × T (won (plan m))) = λ m z e.
    let t = wins.may m z.1 e in (t.0, (to_place r m (plan m) t.0, t.1)) in
    let others : (m : ℕ) → (m < length g) × T (won m) → (whose g m ≡ w → ⊥) → May g m (reply m) × ((reply m < length g) × T (won (reply m))) = λ m z e.
    let t = legal m z.0 (is_other w (whose g m) l (side_below r m) e) in (t, (to_place r m (reply m) t, wins.held m (reply m) z.1 e t)) in
    let p = led_plays g w plan reply (λ m. (m < length g) × T (won m)) n (h, x) own others in
    let by = led_own g w plan reply n in
    let t = comes_back g f p in
    let i : ℕ = t.0 in
    let d : ℕ = t.1 - suc i in
    let z = led_in g w plan reply (λ m. (m < length g) × T (won m)) n (h, x) own others i in
    let j : t.1 ≡ i + suc d = omega (arith, t.2) in
    let even = rounds_are_won s g w plan won (f i) (front (from i f) d) r l wins z.1 (back_round g w plan f i t.1 p by t.2 t.3) in
    (f, refl, p, by, led_other g w plan reply n l, (heaviest g (front (from i f) d), led_heaviest (turn g w plan reply) n i d (t.3 ∙ ap f j) g, even))
