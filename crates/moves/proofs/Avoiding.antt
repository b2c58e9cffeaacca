-- A move to where a plan that wins never comes back from to the move's place: the plan that makes this move there, and goes on as before, wins.
use Rattle.std.proofs.Common.{◌≡◌, ℕ, zero, suc, ◌+◌, ◌<◌, Bool, false, cond, T, eqb, ◌⊎◌, List, length, sym, refl, ap, ◌∙◌, subst, inl, inr, add-suc, arith, eqb→eq}
use Rattle.std.specs.Bool.{IsTrue}
use Rattle.std.proofs.lemmas.Bool.{both_ways, cases_eq, eq-eqb, ne_eqb}
use Rattle.endless.specs.Games.{Game, Reads, whose, May, Play, Plays, ByPlan, Wins, other}
use Rattle.endless.specs.Says.{WinsFrom, side, goes}
use Rattle.endless.specs.Sets.{Set, In, Out}
use Rattle.endless.specs.View.{words_of}
use Rattle.endless.specs.Checked.{IsAnswer}
use Rattle.endless.proofs.Unique.{one_game}
use Rattle.endless.proofs.Places.{from_place, to_place}
use Rattle.moves.specs.Moves.{Given, WinningMove}
use Rattle.moves.specs.Led.{leads, led, Avoids}
use Rattle.moves.proofs.Leading.{length_led, reads_led, led_still, led_here}
use Rattle.moves.proofs.Trials.{wins_from, answer_wins}

module _ {g : Game} {w : ℕ} {plan : ℕ → ℕ} {won : ℕ → Type 0} (wins : WinsFrom g w plan won) (n m : ℕ) (may-move : May g n m) (within : won m)
    (part : Set) (start : In part m) (not_there : Out part n) (closed : (j x : ℕ) → won j → In part j → May g j x → (whose g j ≡ w → x ≡ plan j) → In part x) where
  -- the plan with this move at n
  pub changed : ℕ → ℕ
  changed j = cond (eqb j n) m (plan j)

  pub changed_here : changed n ≡ m
  unfolding changed
  changed_here = ap (λ (b : Bool). cond b m (plan n)) (eq-eqb n n refl)

  changed_else : (j : ℕ) → (j ≡ n → ⊥) → changed j ≡ plan j
  unfolding changed
  changed_else j d = ap (λ (b : Bool). cond b m (plan j)) (ne_eqb j n d)

  may-changed : (j : ℕ) → won j → whose g j ≡ w → (j ≡ n) ⊎ (j ≡ n → ⊥) → May g j (changed j) × won (changed j)
  may-changed j x e (inl d) = subst (λ (i : ℕ). May g i (changed i) × won (changed i)) (sym d) (subst (λ (y : ℕ). May g n y × won y) (sym changed_here) (may-move, within))
  may-changed j x e (inr d) = subst (λ (y : ℕ). May g j y × won y) (sym (changed_else j d)) (wins.may j x e)

  -- a play by it that is at n once is lost by none from then on
  module _ (f : Play) (x : won (f 0)) (p : Plays g f) (b : ByPlan g w changed f) (l : Wins g (other w) f) where
    stays : (i : ℕ) → won (f i)
    stays zero = x
    stays (suc i) = go (stays i) (cases_eq (whose g (f i)) w)
      where
        go : won (f i) → (whose g (f i) ≡ w) ⊎ (whose g (f i) ≡ w → ⊥) → won (f (suc i))
        go y (inl e) = subst won (sym (b i e)) (may-changed (f i) y e (cases_eq (f i) n)).1
        go y (inr d) = wins.held (f i) (f (suc i)) y d (p i)

    module _ (i : ℕ) (at-n : f i ≡ n) (turn : whose g n ≡ w) where
      inside : (j : ℕ) → In part (f (suc i + j))
      inside zero =
          let z : suc i + 0 ≡ suc i = omega arith in
          let first : f (suc i) ≡ m = b i (ap (whose g) at-n ∙ turn) ∙ ap changed at-n ∙ changed_here in
          subst (In part) (sym (ap f z ∙ first)) start
      inside (suc j) =
          let z : suc i + suc j ≡ suc (suc i + j) = omega arith in
          let y = inside j in
          let else' : f (suc i + j) ≡ n → ⊥ = λ e. not_there (subst (In part) e y) in
          subst (λ (k : ℕ). In part (f k)) (sym z) (closed (f (suc i + j)) (f (suc (suc i + j))) (stays (suc i + j)) y (p (suc i + j)) (λ e. b (suc i + j) e ∙ changed_else (f (suc i + j)) else'))

      pub never : ⊥
      never = wins.not_lost (λ j. f (suc i + j)) (stays (suc i + 0)) (λ j. subst (λ (k : ℕ). May g (f (suc i + j)) (f k)) (sym (add-suc (suc i) j)) (p (suc i + j)))
          (λ j e. ap f (add-suc (suc i) j) ∙ b (suc i + j) e ∙ changed_else (f (suc i + j)) (λ d. not_there (subst (In part) d (inside j)))) (wins_from g (other w) f (suc i) l)

  pub changed_wins : whose g n ≡ w → WinsFrom g w changed won
  changed_wins turn = record {
    may = λ j x e. may-changed j x e (cases_eq j n);
    held = wins.held;
    not_lost = λ f x p b l. wins.not_lost f x p (λ i e. b i e ∙ changed_else (f i) (λ d. never f x p b l i d turn)) l;
  }

pub led_long : (g : Game) (a : List ℕ) {h : Game} → h ≡ led g a (length g) → length h ≡ length g
led_long g a {h} e = ap length e ∙ length_led g (leads g a) (goes a) (length g)

-- the game that an answer leads is one
pub reads_answer : {s : List ℕ} {g : Game} {a : List ℕ} → Reads s g → IsAnswer g a → Reads (words_of (led g a (length g))) (led g a (length g))
reads_answer {s} {g} {a} r answer = reads_led g (leads g a) (goes a) r (λ j h t. ((answer_wins answer (side a j) (answer.one_of_two j h)).may j (h, refl) (eqb→eq (whose g j) (side a j) t)).0) (length g) (omega arith)

-- a game that its words are known to be is that one
pub led_game : {s made : List ℕ} {g h : Game} {a : List ℕ} → Reads s g → IsAnswer g a → made ≡ words_of (led g a (length g)) → Reads made h → h ≡ led g a (length g)
led_game {s} {made} {g} {h} {a} r answer e q = one_game made h (led g a (length g)) q (subst (λ (l : List ℕ). Reads l (led g a (length g))) (sym e) (reads_answer r answer))

-- by an answer: the part is one of the game that it leads
pub avoids_winning : {s : List ℕ} {g : Game} {a : List ℕ} → Reads s g → IsAnswer g a → (n m : ℕ) → May g n m → whose g n ≡ side a n → side a m ≡ side a n → Avoids (led g a (length g)) m n → WinningMove g (side a) n m
avoids_winning {s} {g} {a} r answer n m may-move turn same v = record {
  turn = turn;
  plan = changed wins n m may-move (to_place r n m may-move, same) v.part v.here v.not_there closed;
  wins = changed_wins wins n m may-move (to_place r n m may-move, same) v.part v.here v.not_there closed turn;
  makes = changed_here wins n m may-move (to_place r n m may-move, same) v.part v.here v.not_there closed;
}
  where
    w : ℕ
    w = side a n

    wins : WinsFrom g (side a n) (goes a) (Given g (side a) (side a n))
    wins = answer_wins answer (side a n) (answer.one_of_two n (from_place g n m may-move))

    closed : (j x : ℕ) → Given g (side a) (side a n) j → In v.part j → May g j x → (whose g j ≡ side a n → x ≡ goes a j) → In v.part x
    closed j x t y b by = go (cases_eq (whose g j) (side a j))
      where
        inside : x < length (led g a (length g))
        inside = omega (arith, to_place r j x b, length_led g (leads g a) (goes a) (length g))

        keeps_in : (p q : ℕ) → p ≡ q → T (eqb p q)
        keeps_in p q e = subst T (sym (eq-eqb p q e)) tt

        go : (whose g j ≡ side a j) ⊎ (whose g j ≡ side a j → ⊥) → In v.part x
        go (inl e) =
            let is : x ≡ goes a j = by (e ∙ t.1) in
            v.closed.stays j x y (subst (May (led g a (length g)) j) (sym is) (led_here g (leads g a) (goes a) (length g) j x t.0 (keeps_in (whose g j) (side a j) e) b)) (v.all x inside)
        go (inr d) = v.closed.stays j x y (led_still g (leads g a) (goes a) (length g) j x (λ k. d (eqb→eq (whose g j) (side a j) k)) b) (v.all x inside)

-- what is not told is the one or the other
pub the_other : {A : Type 0} → IsTrue false ⊎ A → A
the_other (inl e) = absurd (both_ways false refl e)
the_other (inr a) = a
