-- From plays to rounds: a stretch of a play is a round where it comes back; if all rounds are of a side's kind, so is the heaviest weight of a play.
use Rattle.std.proofs.Common.{◌≡◌, ℕ, zero, suc, ◌+◌, ◌-◌, ◌%◌, ◌<◌, ◌≤◌, max, T, ◌⊎◌, List, [], ◌∷◌, length, sym, ap, ◌∙◌, subst, inl, inr, add-zero, add-suc, arith}
use Rattle.std.proofs.lemmas.Bool.{cases_eq, cases_lt}
use Rattle.endless.specs.Games.{Game, whose, weight, May, Play, Plays, ByPlan, Heaviest}
use Rattle.endless.specs.Says.{Round, last, then1, heaviest, RoundsWin, WeaklyHeaviest}
use Rattle.endless.specs.Sets.{Each}
use Rattle.endless.proofs.Places.{from_place, not_other}

-- the places of a play from its start, one more than d of them
abbrev pub front : Play → ℕ → List ℕ
front f zero = f 0 ∷ []
front f (suc d) = f 0 ∷ front (λ i. f (suc i)) d

pub front_in : (P : ℕ → Type 0) (d : ℕ) (f : Play) → ((i : ℕ) → P (f i)) → Each P (front f d)
front_in P zero f h = (h 0, tt)
front_in P (suc d) f h = (h 0, front_in P d (λ i. f (suc i)) (λ i. h (suc i)))

pub front_round : (g : Game) (w : ℕ) (plan : ℕ → ℕ) (d : ℕ) (f : Play) → Plays g f → ByPlan g w plan f → Round g w plan (f 0) (front f d) (f (suc d))
front_round g w plan zero f p b = last (p 0) (b 0)
front_round g w plan (suc d) f p b = then1 (p 0) (b 0) (front_round g w plan d (λ i. f (suc i)) (λ i. p (suc i)) (λ i. b (suc i)))

-- each weight of a stretch is among it: the heaviest bounds them, and is bounded by what bounds them
pub front_most : (g : Game) (k d : ℕ) (f : Play) → ((i : ℕ) → weight g (f i) ≤ k) → heaviest g (front f d) ≤ k
front_most g k zero f h = omega (arith, h 0)
front_most g k (suc d) f h = omega (arith, h 0, front_most g k d (λ i. f (suc i)) (λ i. h (suc i)))

pub front_each : (g : Game) (d e : ℕ) (f : Play) → e ≤ d → weight g (f e) ≤ heaviest g (front f d)
front_each g zero zero f l = omega arith
front_each g zero (suc e) f l = absurd (omega arith)
front_each g (suc d) zero f l = omega arith
front_each g (suc d) (suc e) f l = omega (arith, front_each g d e (λ i. f (suc i)) (omega arith))

pub front_some : (g : Game) (d : ℕ) (f : Play) → (e : ℕ) × (e ≤ d) × (weight g (f e) ≡ heaviest g (front f d))
front_some g zero f = (0, omega arith, omega arith)
front_some g (suc d) f = go (front_some g d (λ i. f (suc i))) (cases_lt (weight g (f 0)) (heaviest g (front (λ i. f (suc i)) d)))
  where
    rest : ℕ
    rest = heaviest g (front (λ i. f (suc i)) d)

    go : (e : ℕ) × (e ≤ d) × (weight g (f (suc e)) ≡ rest) → (weight g (f 0) < rest) ⊎ (rest ≤ weight g (f 0)) → (e : ℕ) × (e ≤ suc d) × (weight g (f e) ≡ max (weight g (f 0)) rest)
    go t (inl l) = (suc t.0, omega (arith, t.1), omega (arith, t.2))
    go t (inr l) = (0, omega arith, omega arith)

-- a play from a moment on
abbrev pub from : ℕ → Play → Play
from j f i = f (j + i)

pub from_plays : (g : Game) (f : Play) (j : ℕ) → Plays g f → Plays g (from j f)
from_plays g f j p i = subst (λ (x : ℕ). May g (f (j + i)) (f x)) (sym (add-suc j i)) (p (j + i))

pub from_by : (g : Game) (w : ℕ) (plan : ℕ → ℕ) (f : Play) (j : ℕ) → ByPlan g w plan f → ByPlan g w plan (from j f)
from_by g w plan f j b i e = ap f (add-suc j i) ∙ b (j + i) e

-- what a plan holds, a play by it never leaves
pub stays : (g : Game) (w : ℕ) (plan : ℕ → ℕ) (won : ℕ → Type 0) → ((n : ℕ) → won n → whose g n ≡ w → May g n (plan n) × won (plan n)) → ((n m : ℕ) → won n → (whose g n ≡ w → ⊥) → May g n m → won m) →
    (f : Play) → Plays g f → ByPlan g w plan f → won (f 0) → (i : ℕ) → won (f i)
stays g w plan won may held f p b z zero = z
stays g w plan won may held f p b z (suc i) = go (cases_eq (whose g (f i)) w) (stays g w plan won may held f p b z i)
  where
    go : (whose g (f i) ≡ w) ⊎ (whose g (f i) ≡ w → ⊥) → won (f i) → won (f (suc i))
    go (inl e) x = subst won (sym (b i e)) (may (f i) x e).1
    go (inr e) x = held (f i) (f (suc i)) x e (p i)

-- a stretch that comes back to where it began is a round
pub back_round : (g : Game) (w : ℕ) (plan : ℕ → ℕ) (f : Play) (i j : ℕ) → Plays g f → ByPlan g w plan f → i < j → f i ≡ f j → Round g w plan (f i) (front (from i f) (j - suc i)) (f i)
back_round g w plan f i j p b l e =
    let d : ℕ = j - suc i in
    let r = front_round g w plan d (from i f) (from_plays g f i p) (from_by g w plan f i b) in
    let a : i + 0 ≡ i = add-zero i in
    let z : i + suc d ≡ j = omega arith in
    let r' = subst (λ (x : ℕ). Round g w plan (f x) (front (from i f) d) (f (i + suc d))) a r in
    subst (λ (x : ℕ). Round g w plan (f i) (front (from i f) d) x) (ap f z ∙ sym e) r'

-- from a moment on nothing is heavier than at it: where the play comes back to it is a round with that as the heaviest
heavy_round : (g : Game) (w : ℕ) (plan : ℕ → ℕ) (f : Play) (k i j : ℕ) → Plays g f → ByPlan g w plan f → ((x : ℕ) → i ≤ x → weight g (f x) ≤ k) → weight g (f i) ≡ k → i < j → f i ≡ f j → (ns : List ℕ) × Round g w plan (f i) ns (f i) × (heaviest g ns ≡ k)
heavy_round g w plan f k i j p b most here l e =
    let d : ℕ = j - suc i in
    let up : heaviest g (front (from i f) d) ≤ k = front_most g k d (from i f) (λ x. most (i + x) (omega arith)) in
    let down : weight g (f (i + 0)) ≤ heaviest g (front (from i f) d) = front_each g d 0 (from i f) (omega arith) in
    let a : weight g (f (i + 0)) ≡ k = ap (λ (x : ℕ). weight g (f x)) (add-zero i) ∙ here in
    (front (from i f) d, back_round g w plan f i j p b l e, omega arith)

pub weakly : (g : Game) (f : Play) (k : ℕ) → Heaviest g f k → WeaklyHeaviest g f k
weakly g f k h = record { from = h.from; none_heavier = h.none_heavier; never_last = λ i none. let t = h.again i in none t.0 t.1 t.2 }

-- if a play's rounds are of a side's kind, so is its heaviest weight: else each place of that weight could come only once more
pub heaviest_kind : (g : Game) (w : ℕ) (plan : ℕ → ℕ) (f : Play) (k : ℕ) → Plays g f → ByPlan g w plan f → ((i : ℕ) (ns : List ℕ) → Round g w plan (f i) ns (f i) → heaviest g ns % 2 ≡ w) → WeaklyHeaviest g f k → k % 2 ≡ w
heaviest_kind g w plan f k p b rounds h = go (cases_eq (k % 2) w)
  where
    once : (k % 2 ≡ w → ⊥) → (i j : ℕ) → h.from ≤ i → weight g (f i) ≡ k → i < j → f i ≡ f j → ⊥
    once d i j l e m s =
        let t = heavy_round g w plan f k i j p b (λ x y. h.none_heavier x (omega arith)) e m s in
        d (ap (λ (y : ℕ). y % 2) (sym t.2) ∙ rounds i t.0 t.1)

    -- a moment after which no place of weight k below a bound comes
    gone : (k % 2 ≡ w → ⊥) → (bound : ℕ) → ((m : ℕ) → h.from ≤ m → ((j : ℕ) → m ≤ j → f j < bound → weight g (f j) ≡ k → ⊥) → ⊥) → ⊥
    gone d zero c = c h.from (omega arith) (λ j l x. absurd (omega arith))
    gone d (suc bound) c = gone d bound (λ m l none.
        let new : (j : ℕ) → m ≤ j → f j < suc bound → weight g (f j) ≡ k → f j ≡ bound = λ j y x e. is_last j (none j y) x e (cases_eq (f j) bound) in
        c m l (λ j y x e. c (suc j) (omega arith) (λ i z u v. once d j i (omega arith) e z (new j y x e ∙ sym (new i (omega arith) u v)))))
      where
        is_last : (j : ℕ) → (f j < bound → weight g (f j) ≡ k → ⊥) → f j < suc bound → weight g (f j) ≡ k → (f j ≡ bound) ⊎ (f j ≡ bound → ⊥) → f j ≡ bound
        is_last j none x e (inl q) = q
        is_last j none x e (inr q) = absurd (none (omega arith) e)

    go : (k % 2 ≡ w) ⊎ (k % 2 ≡ w → ⊥) → k % 2 ≡ w
    go (inl e) = e
    go (inr d) = absurd (gone d (length g) (λ m l none. h.never_last m (λ j y e. none j y (from_place g (f j) (f (suc j)) (p j)) e)))

pub rounds_win : RoundsWin
rounds_win s g w plan won r l may held rounds = record {
  may = may;
  held = held;
  not_lost = λ f z p b x.
      let in-won = stays g w plan (λ n. T (won n)) may held f p b z in
      not_other w (x.0 % 2) l (heaviest_kind g w plan f x.0 p b (λ i ns c. rounds (f i) ns (in-won i) c) (weakly g f x.0 x.1)) x.2;
}
