-- A move is tried in the game in which its place has it alone, within the places that the side wins that wins its place: the side makes it by some winning plan exactly where it still wins that place, and the plan found there is one.
use Rattle.std.proofs.Common.{◌≡◌, ℕ, zero, suc, ◌+◌, ◌-◌, ◌<◌, ◌↔◌, Bool, true, false, cond, T, ◌⊎◌, List, length, sym, refl, ap, ◌∙◌, subst, inl, inr, add-suc, arith}
use Rattle.std.proofs.lemmas.Bool.{cases_eq}
use Rattle.endless.specs.Games.{Game, Reads, whose, weight, May, Play, Plays, ByPlan, Wins, other}
use Rattle.endless.specs.Says.{WinsFrom, side, goes}
use Rattle.endless.specs.View.{words_of}
use Rattle.endless.specs.Checked.{IsAnswer}
use Rattle.endless.specs.Sets.{Set, In, having}
use Rattle.endless.specs.Subgames.{Subgame, Solves}
use Rattle.endless.proofs.Places.{from_place, to_place, has_move}
use Rattle.endless.proofs.Sets.{having_in, having_within}
use Rattle.endless.proofs.Steps.{wins_as, trapped_wins}
use Rattle.endless.proofs.Only.{all_given}
use Rattle.moves.specs.Alone.{alone}
use Rattle.moves.specs.Moves.{Given, WinningMove}
use Rattle.moves.proofs.Alone.{length_alone, whose_alone, weight_alone, may_else, may_still, may_here, here_may, reads_alone}

-- ---- plans that win, told otherwise

-- from as many places, given as they are by another list of sides
pub given_as : {g : Game} {w : ℕ} {plan : ℕ → ℕ} (h : Game) (a b : ℕ → ℕ) → length h ≡ length g → ((n : ℕ) → n < length g → a n ≡ b n) → WinsFrom g w plan (Given h a w) → WinsFrom g w plan (Given g b w)
given_as {g} {w} {plan} h a b e same = wins_as g w plan (Given h a w) (Given g b w)
    (λ n t. let l : n < length g = omega (arith, e, t.0) in (l, sym (same n l) ∙ t.1))
    (λ n t. (omega (arith, e, t.0), same n t.0 ∙ t.1))

-- ---- plays in two games that differ in their moves alone

wins_same : (g h : Game) (v : ℕ) (f : Play) → ((j : ℕ) → weight h j ≡ weight g j) → Wins g v f → Wins h v f
wins_same g h v f same (k, x, e) = (
  k,
  record {
    from = x.from;
    none_heavier = λ i l. omega (arith, same (f i), x.none_heavier i l);
    again = λ i. let t = x.again i in (t.0, t.1, same (f t.0) ∙ t.2);
  },
  e,
)

-- a play is won as from any moment on
pub wins_from : (g : Game) (v : ℕ) (f : Play) (i : ℕ) → Wins g v f → Wins g v (λ j. f (i + j))
wins_from g v f i (k, x, e) = (
  k,
  record {
    from = x.from;
    none_heavier = λ j l. x.none_heavier (i + j) (omega arith);
    again = λ j. let t = x.again (i + j) in let z : i + (t.0 - i) ≡ t.0 = omega (arith, t.1) in (t.0 - i, omega (arith, t.1), ap (λ (y : ℕ). weight g (f y)) z ∙ t.2);
  },
  e,
)

module _ {s : List ℕ} {g : Game} (reads : Reads s g) (n m : ℕ) (may-move : May g n m) where
  abbrev h : Game
  h = alone g n m

  may_in : (j x : ℕ) → May h j x → May g j x
  may_in j x a = go (cases_eq j n)
    where
      go : (j ≡ n) ⊎ (j ≡ n → ⊥) → May g j x
      go (inl e) = subst (λ (k : ℕ). May g k x) (sym e) (subst (May g n) (sym (may_here g n m x (subst (λ (k : ℕ). May (alone g n m) k x) e a))) may-move)
      go (inr d) = may_else g n m j x d a

  -- by a plan that makes the move
  may_by : (plan : ℕ → ℕ) (j : ℕ) → plan n ≡ m → May g j (plan j) → May h j (plan j)
  may_by plan j makes a = go (cases_eq j n)
    where
      go : (j ≡ n) ⊎ (j ≡ n → ⊥) → May (alone g n m) j (plan j)
      go (inl e) = subst (λ (k : ℕ). May (alone g n m) k (plan k)) (sym e) (subst (May (alone g n m) n) (sym makes) (here_may g n m m may-move))
      go (inr d) = may_still g n m j (plan j) d a

  whose_h : (j : ℕ) → whose h j ≡ whose g j
  whose_h = whose_alone g n m

  weight_h : (j : ℕ) → weight h j ≡ weight g j
  weight_h = weight_alone g n m

  -- a plan that wins and makes the move wins where it is the only one
  to_alone : {w : ℕ} {plan : ℕ → ℕ} {won : ℕ → Type 0} → plan n ≡ m → WinsFrom g w plan won → WinsFrom h w plan won
  to_alone {w} {plan} {won} makes wins = record {
    may = λ j x e. let t = wins.may j x (sym (whose_h j) ∙ e) in (may_by plan j makes t.0, t.1);
    held = λ j k x d a. wins.held j k x (λ e. d (whose_h j ∙ e)) (may_in j k a);
    not_lost = λ f x p b l. wins.not_lost f x (λ i. may_in (f i) (f (suc i)) (p i)) (λ i e. b i (whose_h (f i) ∙ e)) (wins_same h g (other w) f (λ j. sym (weight_h j)) l);
  }

  -- a plan that wins where it is the only one makes it, and wins
  module _ {w : ℕ} {plan : ℕ → ℕ} {won : ℕ → Type 0} (turn : whose g n ≡ w) (here : won n) (wins : WinsFrom h w plan won) where
    pub makes_it : plan n ≡ m
    makes_it = may_here g n m (plan n) (wins.may n here (whose_h n ∙ turn)).0

    may_out : (j x : ℕ) → (whose g j ≡ w → x ≡ plan j) → May g j x → May h j x
    may_out j x by a = go (cases_eq (whose g j) w)
      where
        go : (whose g j ≡ w) ⊎ (whose g j ≡ w → ⊥) → May h j x
        go (inl e) = subst (May h j) (sym (by e)) (may_by plan j makes_it (subst (May g j) (by e) a))
        go (inr d) = others d
          where
            others : (whose g j ≡ w → ⊥) → May h j x
            others d = may_still g n m j x (λ e. d (ap (whose g) e ∙ turn)) a

    pub from_alone : WinsFrom g w plan won
    from_alone = record {
      may = λ j x e. let t = wins.may j x (whose_h j ∙ e) in (may_in j (plan j) t.0, t.1);
      held = λ j k x d a. wins.held j k x (λ e. d (sym (whose_h j) ∙ e)) (may_out j k (λ e. absurd (d e)) a);
      not_lost = λ f x p b l. wins.not_lost f x (λ i. may_out (f i) (f (suc i)) (b i) (p i)) (λ i e. b i (sym (whose_h (f i)) ∙ e)) (wins_same g h (other w) f weight_h l);
    }

  -- where it is the only one a side's plan for some of its places, n among them, and its plan for all of them as the moves were, win together: a play that comes to one of the former stays there, and any other is never at n
  module _ {w : ℕ} {plan rest : ℕ → ℕ} (some : ℕ → Bool) {all : ℕ → Type 0} (here : T (some n)) (turn : whose g n ≡ w) (within : (j : ℕ) → T (some j) → all j)
      (wins : WinsFrom h w plan (λ j. T (some j))) (as-before : WinsFrom g w rest all) where
    abbrev both : ℕ → ℕ
    both j = cond (some j) (plan j) (rest j)

    both_in : (j : ℕ) → T (some j) → both j ≡ plan j
    both_in j x = go (some j) x
      where
        go : (b : Bool) → T b → cond b (plan j) (rest j) ≡ plan j
        go true t = refl
        go false t = absurd t

    both_out : (j : ℕ) → (T (some j) → ⊥) → both j ≡ rest j
    both_out j x = go (some j) x
      where
        go : (b : Bool) → (T b → ⊥) → cond b (plan j) (rest j) ≡ rest j
        go true t = absurd (t tt)
        go false t = refl

    pub together : WinsFrom h w both all
    together = record {
      may = λ j x e. may j x e (in_or_out j);
      held = λ j k x d a. as-before.held j k x (λ e. d (whose_h j ∙ e)) (may_in j k a);
      not_lost = λ f x p b l. let never = comes f p b l in
          as-before.not_lost f x (λ i. may_in (f i) (f (suc i)) (p i)) (λ i e. b i (whose_h (f i) ∙ e) ∙ both_out (f i) (never i)) (wins_same h g (other w) f (λ j. sym (weight_h j)) l);
    }
      where
        in_or_out : (j : ℕ) → T (some j) ⊎ (T (some j) → ⊥)
        in_or_out j = go (some j)
          where
            go : (b : Bool) → T b ⊎ (T b → ⊥)
            go true = inl tt
            go false = inr (λ t. t)

        may : (j : ℕ) → all j → whose h j ≡ w → T (some j) ⊎ (T (some j) → ⊥) → May h j (both j) × all (both j)
        may j x e (inl y) = let t = wins.may j y e in subst (λ (k : ℕ). May h j k × all k) (sym (both_in j y)) (t.0, within (plan j) t.1)
        may j x e (inr o) = let t = as-before.may j x (sym (whose_h j) ∙ e) in subst (λ (k : ℕ). May h j k × all k) (sym (both_out j o)) (still t.0, t.1)
          where
            still : May g j (rest j) → May h j (rest j)
            still a = may_still g n m j (rest j) (λ d. o (subst (λ (k : ℕ). T (some k)) (sym d) here)) a

        -- from a moment on at which it comes to one of the former
        comes : (f : Play) → Plays h f → ByPlan h w both f → Wins h (other w) f → (i : ℕ) → T (some (f i)) → ⊥
        comes f p b l i x = wins.not_lost (λ j. f (i + j)) (stays 0) (λ j. subst (λ (k : ℕ). May h (f (i + j)) (f k)) (sym (add-suc i j)) (p (i + j))) (λ j e. ap f (add-suc i j) ∙ b (i + j) e ∙ both_in (f (i + j)) (stays j)) (wins_from h (other w) f i l)
          where
            stays : (j : ℕ) → T (some (f (i + j)))
            stays zero = let z : i ≡ i + 0 = omega arith in subst (λ (k : ℕ). T (some (f k))) z x
            stays (suc j) = subst (λ (k : ℕ). T (some (f k))) (sym (add-suc i j)) (next (stays j) (cases_eq (whose h (f (i + j))) w))
              where
                next : T (some (f (i + j))) → (whose h (f (i + j)) ≡ w) ⊎ (whose h (f (i + j)) ≡ w → ⊥) → T (some (f (suc (i + j))))
                next y (inl e) = subst (λ (k : ℕ). T (some k)) (sym (b (i + j) e ∙ both_in (f (i + j)) y)) (wins.may (f (i + j)) y e).1
                next y (inr d) = wins.held (f (i + j)) (f (suc (i + j))) y d (p (i + j))

-- ---- by answers

pub answer_wins : {g : Game} {o : List ℕ} → IsAnswer g o → (w : ℕ) → w < 2 → WinsFrom g w (goes o) (Given g (side o) w)
answer_wins answer zero l = answer.wins_0
answer_wins answer (suc zero) l = answer.wins_1
answer_wins answer (suc (suc w)) l = absurd (omega arith)

-- U are the places that the side wins that wins n, and m is one of them
module _ {s : List ℕ} {g : Game} (reads : Reads s g) {o : List ℕ} (answer : IsAnswer g o) (n m : ℕ) (may-move : May g n m) (stays : side o m ≡ side o n) (U : Set) (are : (j : ℕ) → (In U j ↔ Given g (side o) (side o n) j)) where
  abbrev w : ℕ
  w = side o n

  place : n < length g
  place = from_place g n m may-move

  two : w < 2
  two = answer.one_of_two n place

  reads-alone : Reads (words_of (alone g n m)) (alone g n m)
  reads-alone = reads_alone reads n m (to_place reads n m may-move)

  as-before : WinsFrom g w (goes o) (λ j. In U j)
  as-before = wins_as g w (goes o) (Given g (side o) w) (λ j. In U j) (λ j. (are j).1) (λ j. (are j).0) (answer_wins answer w two)

  inside : (j : ℕ) → In U j → j < length (alone g n m)
  inside j x = omega (arith, ((are j).0 x).0, length_alone g n m)

  -- with the one move alone too, each of them has a move to one of them
  pub alone_subgame : Subgame (alone g n m) U
  alone_subgame = record { places = inside; goes_on = λ j x. on j x (cases_eq j n) (cases_eq (whose g j) w) }
    where
      on : (j : ℕ) → In U j → (j ≡ n) ⊎ (j ≡ n → ⊥) → (whose g j ≡ w) ⊎ (whose g j ≡ w → ⊥) → (k : ℕ) × May (alone g n m) j k × In U k
      on j x (inl e) t = (m, subst (λ (i : ℕ). May (alone g n m) i m) (sym e) (here_may g n m m may-move), (are m).1 (to_place reads n m may-move, stays))
      on j x (inr d) (inl e) = let t = as-before.may j x e in (goes o j, may_still g n m j (goes o j) d t.0, t.1)
      on j x (inr d) (inr f) = let t = has_move reads j ((are j).0 x).0 in (t.0, may_still g n m j t.0 d t.1, as-before.held j t.0 x f t.1)

  module _ (p : List ℕ) (tried : Solves (alone g n m) U (side p) (goes p)) where
    -- whatever plan wins from all of them there, the side wins them all
    won_there : {plan : ℕ → ℕ} → WinsFrom (alone g n m) w plan (λ j. In U j) → (j : ℕ) → In U j → side p j ≡ w
    won_there = all_given reads-alone tried two

    -- the side does not win the place any more: no winning plan makes the move
    pub makes_none : (side p n ≡ side o n → ⊥) → WinningMove g (side o) n m → ⊥
    makes_none d x = d (won_there (to_alone reads n m may-move x.makes (wins_as g w x.plan (Given g (side o) w) (λ j. In U j) (λ j. (are j).1) (λ j. (are j).0) x.wins)) n ((are n).1 (place, refl)))

    -- it wins the place still: the plan wins from all the side's places as the moves were, and makes this one
    pub makes_one : whose g n ≡ side o n → side p n ≡ side o n → WinsFrom g (side o n) (goes p) (Given g (side o) (side o n)) × (goes p n ≡ m)
    makes_one turn wins = (wins_as g w (goes p) (λ j. In some j) (Given g (side o) w) (λ j x. (are j).0 (within j x)) back (from_alone reads n m may-move turn here one-move), makes_it reads n m may-move turn here one-move)
      where
        -- the places that it wins there
        some : Set
        some = having U (side p) w

        within : (j : ℕ) → In some j → In U j
        within = having_within U (side p) w

        here : In some n
        here = having_in U (side p) w n ((are n).1 (place, refl)) wins

        one-move : WinsFrom (alone g n m) w (goes p) (λ j. In some j)
        one-move = trapped_wins reads-alone two inside (λ j k x d a. as-before.held j k x (λ e. d (whose_alone g n m j ∙ e)) (may_in reads n m may-move j k a)) (tried.won w two)

        back : (j : ℕ) → Given g (side o) w j → In some j
        back j t = let x = (are j).1 t in having_in U (side p) w j x (won_there (together reads n m may-move some here turn within one-move as-before) j x)

-- a winning move stays in the side's places
pub makes_within : {g : Game} {sides : ℕ → ℕ} {n m : ℕ} → n < length g → WinningMove g sides n m → sides m ≡ sides n
makes_within {g} {sides} {n} {m} h x = subst (λ (k : ℕ). sides k ≡ sides n) x.makes (x.wins.may n (h, refl) x.turn).1.1
