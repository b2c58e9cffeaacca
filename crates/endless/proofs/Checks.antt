-- Looking at an answer: the places given to a side, and what a flaw of its plan there says of the answer.
use Rattle.std.proofs.Common.{◌≡◌, ℕ, ◌*◌, ◌%◌, ◌<◌, ◌≤◌, ltb, ◌⊎◌, ◌↔◌, List, length, MatchOption, Option, Some, None, Ok, Err, MatchResult, Result, sym, refl, ap, ◌∙◌, subst, inl, inr, arith}
use Rattle.std.specs.Result.{IsErrAnd}
use Rattle.std.proofs.lemmas.Bool.{cases_eq}
use Rattle.std.proofs.lemmas.Result.{err_from_is_err_and}
use Rattle.endless.specs.Games.{Game, Reads}
use Rattle.endless.specs.Says.{WinsFrom, side, goes}
use Rattle.endless.specs.Sets.{Set, In, Within, whole, having}
use Rattle.endless.specs.Subgames.{Holds, Solves}
use Rattle.endless.specs.Sides.{number}
use Rattle.endless.specs.Bits.{members, size}
use Rattle.endless.specs.Accepting.{Accepts}
use Rattle.endless.specs.Flaws.{FlawIs}
use Rattle.endless.specs.Checked.{IsAnswer, ReasonIs, SideChecked, CheckedPost}
use Rattle.endless.specs.declared.accepted.Accepted.{Accepted}
use Rattle.endless.specs.declared.flaw.Flaw.{Flaw}
use Rattle.endless.specs.declared.flaw.Flaw.TheVariants.{NoMove, Leaves, Escape, LosingRound}
use Rattle.endless.specs.declared.verdict.Reason.{Reason}
use Rattle.endless.specs.declared.verdict.Reason.TheVariants.{Short, NoSide, Plan}
use Rattle.endless.specs.declared.verdict.Rejection.TheVariants.{Wrong}
use Rattle.endless.specs.declared.side.Side.{Side}
use Rattle.endless.specs.declared.side.Side.TheVariants.{Even, Odd}
use Rattle.endless.proofs.Tests.{T_true, true_T}
use Rattle.endless.proofs.Readers.{number_below}
use Rattle.endless.proofs.Unique.{one_game}
use Rattle.endless.proofs.Places.{not_other}
use Rattle.endless.proofs.Sets.{whole_in, whole_place, having_in, having_within, having_is, each_map}
use Rattle.endless.proofs.SetLaws.{size_sub}
use Rattle.endless.proofs.Steps.{holds_as, wins_holds, wins_as, solves_wins}
use Rattle.endless.proofs.Layouts.{filled_whole, whole_filled}

-- a flaw of a plan in the same sets, told otherwise
pub flaw_as : (g : Game) (U V X Y : Set) (w : ℕ) (plan : ℕ → ℕ) → Within U V → Within X Y → Within Y X → (f : Flaw) → FlawIs g U X w plan f → FlawIs g V Y w plan f
flaw_as g U V X Y w plan uv xy yx (NoMove n) t = (xy _ t.0, t.1, t.2)
flaw_as g U V X Y w plan uv xy yx (Leaves n) t = (xy _ t.0, t.1, t.2, λ y. t.3 (yx _ y))
flaw_as g U V X Y w plan uv xy yx (Escape n m) t = (xy _ t.0, t.1, t.2, uv _ t.3, λ y. t.4 (yx _ y))
flaw_as g U V X Y w plan uv xy yx (LosingRound n k) t =
    let r = t.1 in
    (xy _ t.0, record { places = r.places; inside = each_map xy r.places r.inside; round = r.round; weighs = r.weighs; theirs = r.theirs })

-- the first number below n of which Yes is so
pub first_below : (Yes No : ℕ → Type 0) (n : ℕ) (r : Option ℕ) → MatchOption r ((k : ℕ) → 0 ≤ k → k < n → No k) (λ i. (0 ≤ i) × (i < n) × Yes i × ((k : ℕ) → 0 ≤ k → k < i → No k)) → MatchOption r ((k : ℕ) → k < n → No k) (λ i. (i < n) × Yes i)
first_below Yes No n None none = λ k l. none k (omega arith) l
first_below Yes No n (Some i) t = (t.1, t.2)

-- ---- the places given to a side

-- the places below n that the answer gives to w
abbrev pub GivenTo : List ℕ → ℕ → ℕ → List ℕ → Type 0
GivenTo o w n set = (j : ℕ) → (In (members set) j ↔ ((j < n) × (side o j ≡ w)))

module _ (g : Game) (o : List ℕ) (v : Side) (n : ℕ) (all set : List ℕ) (are : (j : ℕ) → members all j ≡ ltb j (length g)) (many : n ≡ length g) (given : GivenTo o (number v) n set) where
  given_having : Within (members set) (having (whole g) (side o) (number v))
  given_having j x = let t = (given j).0 x in having_in (whole g) (side o) (number v) j (whole_in g j (omega (arith, t.0))) t.1

  having_given : Within (having (whole g) (side o) (number v)) (members set)
  having_given j x =
      let l = whole_place g j (having_within (whole g) (side o) (number v) j x) in
      (given j).1 (omega arith, having_is (whole g) (side o) (number v) j x)

  given_all : Within (members set) (members all)
  given_all j x = whole_filled g all are j (having_within (whole g) (side o) (number v) j (given_having j x))

  -- there are no more of them than there are places
  pub given_room : length set ≡ length all → size all ≡ length g → size set ≤ length g
  given_room e size-all = omega (arith, size_sub set all e (λ j x. T_true _ (given_all j (true_T _ x))))

  -- what is so of them, as words hold them and the set of all places, is so in the whole game
  given_holds : {plan : ℕ → ℕ} → (Within (members set) (members all) → Holds g (members all) (members set) (number v) plan) → Holds g (whole g) (having (whole g) (side o) (number v)) (number v) plan
  given_holds holds = holds_as (members all) (whole g) (members set) (having (whole g) (side o) (number v)) (filled_whole g all are) (whole_filled g all are) given_having having_given (holds given_all)

  given_flaw : (plan : ℕ → ℕ) (f : Flaw) → (Within (members set) (members all) → FlawIs g (members all) (members set) (number v) plan f) → FlawIs g (whole g) (having (whole g) (side o) (number v)) (number v) plan f
  given_flaw plan f flaw = flaw_as g (members all) (whole g) (members set) (having (whole g) (side o) (number v)) (number v) plan (filled_whole g all are) given_having having_given f (flaw given_all)

  -- so a side is checked, where a flaw is told as one of its plan
  pub given_checked : (r : Result (Unit {0}) Flaw) (r' : Result (Unit {0}) Reason) (L : Flaw → Reason → Type 0) → MatchResult r (λ u. r' ≡ Ok u) (λ f. IsErrAnd r' (L f)) → ((f : Flaw) (reason : Reason) → L f reason → reason ≡ Plan v f) →
      (Within (members set) (members all) → MatchResult r (λ _. Holds g (members all) (members set) (number v) (goes o)) (λ f. FlawIs g (members all) (members set) (number v) (goes o) f)) → SideChecked g o v r'
  given_checked (Ok u) r' L is plan found = subst (SideChecked g o v) (sym is) (given_holds found)
  given_checked (Err f) r' L is plan found =
      let p = err_from_is_err_and r' is in
      subst (SideChecked g o v) (sym p.1) (subst (ReasonIs g o) (sym (plan f p.0 p.2)) (given_flaw (goes o) f found))

-- ---- a flaw of a plan

-- a plan with a flaw does not hold its set
pub flaw_refutes : (g : Game) (U X : Set) (w : ℕ) (plan : ℕ → ℕ) → w < 2 → (f : Flaw) → FlawIs g U X w plan f → Holds g U X w plan → ⊥
flaw_refutes g U X w plan l (NoMove n) t h = t.2 (h.may n.0 t.0 t.1).0
flaw_refutes g U X w plan l (Leaves n) t h = t.3 (h.may n.0 t.0 t.1).1
flaw_refutes g U X w plan l (Escape n m) t h = t.4 (h.held n.0 m.0 t.0 t.1 t.2 t.3)
flaw_refutes g U X w plan l (LosingRound n k) t h =
    let r = t.1 in
    not_other w (k % 2) l (ap (λ (y : ℕ). y % 2) (sym r.weighs) ∙ h.rounds n.0 r.places r.inside r.round) r.theirs

-- ---- an answer

answer_wins : {g : Game} {o : List ℕ} → IsAnswer g o → (w : Side) → WinsFrom g (number w) (goes o) (λ n. (n < length g) × (side o n ≡ number w))
answer_wins a Even = a.wins_0
answer_wins a Odd = a.wins_1

pub answer_holds : {s : List ℕ} {g : Game} {o : List ℕ} → Reads s g → IsAnswer g o → (w : Side) → Holds g (whole g) (having (whole g) (side o) (number w)) (number w) (goes o)
answer_holds {s} {g} {o} r a w = wins_holds r (number_below w) (having_within (whole g) (side o) (number w))
    (wins_as g (number w) (goes o) (λ n. (n < length g) × (side o n ≡ number w)) (λ n. In (having (whole g) (side o) (number w)) n)
    (λ n t. having_in (whole g) (side o) (number w) n (whole_in g n t.0) t.1)
    (λ n x. (whole_place g n (having_within (whole g) (side o) (number w) n x), having_is (whole g) (side o) (number w) n x))
    (answer_wins a w))

pub reason_refutes : {s : List ℕ} {g : Game} {o : List ℕ} → Reads s g → (r : Reason) → ReasonIs g o r → IsAnswer g o → ⊥
reason_refutes r Short t a = omega (arith, a.long)
reason_refutes r (NoSide n) t a = omega (arith, a.one_of_two n.0 t.0, t.1)
reason_refutes {s} {g} {o} r (Plan w f) t a = flaw_refutes g (whole g) (having (whole g) (side o) (number w)) (number w) (goes o) (number_below w) f t (answer_holds r a w)

pub solves_answer : {s : List ℕ} {g : Game} {o : List ℕ} → Reads s g → 2 * length g ≤ length o → Solves g (whole g) (side o) (goes o) → IsAnswer g o
solves_answer {s} {g} {o} r long a = record {
  long = long;
  one_of_two = λ n l. a.one_of_two n (whole_in g n l);
  wins_0 = solves_wins r a 0 (omega arith);
  wins_1 = solves_wins r a 1 (omega arith);
}

-- both sides' plans hold: an answer
pub both_hold : (g : Game) (o : List ℕ) → ((n : ℕ) → n < length g → side o n < 2) → Holds g (whole g) (having (whole g) (side o) 0) 0 (goes o) → Holds g (whole g) (having (whole g) (side o) 1) 1 (goes o) → Solves g (whole g) (side o) (goes o)
both_hold g o two even odd = record { one_of_two = λ n x. two n (whole_place g n x); won = λ w l. go w l (cases_eq w 0) }
  where
    go : (w : ℕ) → w < 2 → (w ≡ 0) ⊎ (w ≡ 0 → ⊥) → Holds g (whole g) (having (whole g) (side o) w) w (goes o)
    go w l (inl e) = subst (λ (v : ℕ). Holds g (whole g) (having (whole g) (side o) v) v (goes o)) (sym e) even
    go w l (inr d) = let e : w ≡ 1 = omega arith in subst (λ (v : ℕ). Holds g (whole g) (having (whole g) (side o) v) v (goes o)) (sym e) odd

-- ---- what `check` promises

pub wrong_checked : (s : List ℕ) (lent : ℕ) (accepted : Accepted) (o : List ℕ) → Accepts s lent (Ok accepted) → (r : Reason) → ReasonIs accepted.game o r → CheckedPost s lent o (Err (Wrong r))
wrong_checked s lent accepted o a r is =
    let refutes = reason_refutes a.1 r is in
    record {
      says = (accepted.game, a.1, is, refutes);
      few = (λ x. absurd (omega arith), λ e. cc);
      right = λ l h reads. (λ e. cc, λ b. absurd (refutes (subst (λ (x : Game). IsAnswer x o) (one_game s h accepted.game reads a.1) b)));
      no_game = λ l. (λ e. cc, λ n. absurd (n accepted.game a.1));
    }

pub right_checked : (s : List ℕ) (lent : ℕ) (accepted : Accepted) (o : List ℕ) → Accepts s lent (Ok accepted) → IsAnswer accepted.game o → CheckedPost s lent o (Ok tt)
right_checked s lent accepted o a is = record {
  says = (accepted.game, a.1, is);
  few = (λ x. absurd (omega arith), λ e. cc);
  right = λ l h reads. (λ e. subst (λ (x : Game). IsAnswer x o) (one_game s accepted.game h a.1 reads) is, λ b. refl);
  no_game = λ l. (λ e. cc, λ n. absurd (n accepted.game a.1));
}
