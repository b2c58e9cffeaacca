-- Marks as they are set: by a plan that wins, and one move after the other.
use Rattle.std.proofs.Common.{◌≡◌, ℕ, ◌+◌, ◌*◌, ◌<◌, ◌≤◌, ◌⊎◌, ◌↔◌, List, length, get_or, set, eqb, sym, refl, ap, ◌∙◌, subst, inl, inr, arith}
use Rattle.std.proofs.lemmas.List.{get_or-set_same, get_or-set_other}
use Rattle.std.specs.Bool.{IsTrue}
use Rattle.std.proofs.lemmas.Bool.{cases_eq, cases_lt, eq-eqb, eqb-true}
use Rattle.endless.proofs.Working.{goes_at, side_at}
use Rattle.endless.specs.Games.{Game, whose}
use Rattle.endless.specs.Says.{WinsFrom, side, goes}
use Rattle.endless.specs.Graph.{edges}
use Rattle.endless.specs.Checked.{IsAnswer}
use Rattle.endless.proofs.Places.{from_place}
use Rattle.moves.specs.Moves.{origin, target, Given, WinningMove, winner, mark, Marked}
use Rattle.moves.specs.Marking.{Makes, SetIf, Noted, Marking, Begun}
use Rattle.moves.proofs.Trials.{given_as, answer_wins}
use Rattle.moves.proofs.Lists.{step_may}

-- ---- the moves that a plan makes

pub noted_none : (g : Game) (sides : ℕ → ℕ) (w : ℕ) (plan : ℕ → ℕ) (i : ℕ) (o : List ℕ) → Noted g sides w plan i i o o
noted_none g sides w plan i o = record { set = λ j l h. absurd (omega arith); front = λ j h. refl; rest = λ j h. refl }

module _ {g : Game} {sides : ℕ → ℕ} {w : ℕ} {plan : ℕ → ℕ} {i k : ℕ} {o p : List ℕ} (n : Noted g sides w plan i k o p) (order : i ≤ k) where
  noted_set : length g + k < length p → Makes g sides w plan (origin g k) (target g k) → Noted g sides w plan i (k + 1) o (set p (length g + k) 1)
  noted_set inside makes = record {
    set = λ j l h. of j l h (cases_eq j k);
    front = λ j h. get_or-set_other p (length g + k) j 1 0 (λ e. omega arith) ∙ n.front j h;
    rest = λ j h. get_or-set_other p (length g + k) j 1 0 (λ e. omega arith) ∙ n.rest j (omega arith);
  }
    where
      of : (j : ℕ) → i ≤ j → j < k + 1 → (j ≡ k) ⊎ (j ≡ k → ⊥) → SetIf (Makes g sides w plan (origin g j) (target g j)) (mark g o j) (mark g (set p (length g + k) 1) j)
      of j l h (inl e) = inl (
        subst (λ (x : ℕ). Makes g sides w plan (origin g x) (target g x)) (sym e) makes,
        ap (λ (x : ℕ). mark g (set p (length g + k) 1) x) e ∙ get_or-set_same p (length g + k) 1 0 inside,
      )
      of j l h (inr d) = subst (λ (x : ℕ). SetIf (Makes g sides w plan (origin g j) (target g j)) (mark g o j) x) (sym (get_or-set_other p (length g + k) (length g + j) 1 0 (λ e. d (omega arith)))) (n.set j l (omega arith))

  noted_same : (Makes g sides w plan (origin g k) (target g k) → ⊥) → Noted g sides w plan i (k + 1) o p
  noted_same none = record { set = λ j l h. of j l h (cases_eq j k); front = n.front; rest = λ j h. n.rest j (omega arith) }
    where
      of : (j : ℕ) → i ≤ j → j < k + 1 → (j ≡ k) ⊎ (j ≡ k → ⊥) → SetIf (Makes g sides w plan (origin g j) (target g j)) (mark g o j) (mark g p j)
      of j l h (inl e) = inr ((λ x. none (subst (λ (x : ℕ). Makes g sides w plan (origin g x) (target g x)) e x)), ap (λ (x : ℕ). mark g p x) e ∙ n.rest (length g + k) (omega arith) ∙ sym (ap (λ (x : ℕ). mark g o x) e))
      of j l h (inr d) = n.set j l (omega arith)

  -- one more is made by it, and marked
  pub noted_one : length g + k < length p → Makes g sides w plan (origin g k) (target g k) → {places : ℕ} {q : List ℕ} → places ≡ length g → q ≡ set p (places + k) 1 → Noted g sides w plan i (k + 1) o q
  noted_one inside makes {places} {q} e f = subst (Noted g sides w plan i (k + 1) o) (sym (f ∙ ap (λ (x : ℕ). set p (x + k) 1) e)) (noted_set inside makes)

  -- or it is not
  pub noted_not : (Makes g sides w plan (origin g k) (target g k) → ⊥) → {q : List ℕ} → q ≡ p → Noted g sides w plan i (k + 1) o q
  noted_not none {q} f = subst (Noted g sides w plan i (k + 1) o) (sym f) (noted_same none)

pub noted_all : {g : Game} {sides : ℕ → ℕ} {w : ℕ} {plan : ℕ → ℕ} {i k : ℕ} {o p : List ℕ} → k ≡ edges g → Noted g sides w plan i k o p → Noted g sides w plan i (edges g) o p
noted_all {g} {sides} {w} {plan} {i} {k} {o} {p} e n = subst (λ (x : ℕ). Noted g sides w plan i x o p) e n

-- whether a plan makes a move at a place of its side's, by the words
pub makes_here : {g : Game} {sides : ℕ → ℕ} {w : ℕ} (k : ℕ) {n m : ℕ} (p : List ℕ) → n ≡ origin g k → m ≡ target g k → sides n ≡ w → whose g n ≡ w → (IsTrue (eqb (get_or p (2 * n + 1) 0) m) ↔ Makes g sides w (goes p) (origin g k) (target g k))
makes_here {g} {sides} {w} k {n} {m} p from_is to_is won turn = (
  λ t. subst (Makes g sides w (goes p) (origin g k)) to_is (subst (λ (j : ℕ). Makes g sides w (goes p) j m) from_is (record { won = won; turn = turn; makes = goes_at p n ∙ eqb-true (get_or p (2 * n + 1) 0) m t })),
  λ x. eq-eqb (get_or p (2 * n + 1) 0) m (sym (goes_at p n) ∙ ap (goes p) from_is ∙ x.makes ∙ sym to_is),
)

-- what a plan that wins makes is a winning move
winning : {g : Game} {sides : ℕ → ℕ} {w : ℕ} {plan : ℕ → ℕ} {n m : ℕ} → WinsFrom g w plan (Given g sides w) → Makes g sides w plan n m → WinningMove g sides n m
winning {g} {sides} {w} {plan} wins x = record {
  turn = x.turn ∙ sym x.won;
  plan = plan;
  wins = subst (λ (v : ℕ). WinsFrom g v plan (Given g sides v)) (sym x.won) wins;
  makes = x.makes;
}

-- ---- marks in the making

pub marking_none : {g : Game} {sides : ℕ → ℕ} {first o : List ℕ} → Begun g sides first o → Marking g sides first 0 o
marking_none b = record {
  winners = b.winners;
  zero_or_one = λ j h. omega (arith, b.none j h);
  sound = λ j h e. absurd (omega (arith, b.none j h));
  complete = λ j h. absurd (omega arith);
  behind = b.behind;
}

module _ {g : Game} {sides : ℕ → ℕ} {first : List ℕ} {k : ℕ} {o : List ℕ} (m : Marking g sides first k o) where
  -- the moves of a plan that wins are marked, of those that are not seen to
  pub marking_plan : {w : ℕ} {plan : ℕ → ℕ} {p : List ℕ} → WinsFrom g w plan (Given g sides w) → Noted g sides w plan k (edges g) o p → Marking g sides first k p
  marking_plan {w} {plan} {p} wins n = record {
    winners = λ i h. n.front i (omega arith) ∙ m.winners i h;
    zero_or_one = λ j h. below j h (cases_lt j k);
    sound = λ j h e. sound j h e (cases_lt j k);
    complete = λ j h x. same j h ∙ m.complete j h x;
    behind = λ i h. n.rest i h ∙ m.behind i h;
  }
    where
      same : (j : ℕ) → j < k → mark g p j ≡ mark g o j
      same j h = n.front (length g + j) (omega arith)

      below : (j : ℕ) → j < edges g → (j < k) ⊎ (k ≤ j) → mark g p j < 2
      below j h (inl l) = omega (arith, same j l, m.zero_or_one j h)
      below j h (inr l) = go (n.set j l h)
        where
          go : SetIf (Makes g sides w plan (origin g j) (target g j)) (mark g o j) (mark g p j) → mark g p j < 2
          go (inl t) = omega (arith, t.1)
          go (inr t) = omega (arith, t.1, m.zero_or_one j h)

      sound : (j : ℕ) → j < edges g → mark g p j ≡ 1 → (j < k) ⊎ (k ≤ j) → WinningMove g sides (origin g j) (target g j)
      sound j h e (inl l) = m.sound j h (sym (same j l) ∙ e)
      sound j h e (inr l) = go (n.set j l h)
        where
          go : SetIf (Makes g sides w plan (origin g j) (target g j)) (mark g o j) (mark g p j) → WinningMove g sides (origin g j) (target g j)
          go (inl t) = winning wins t.0
          go (inr t) = m.sound j h (sym t.1 ∙ e)

  -- one more is seen to: it is marked, or no winning move
  pub marking_more : (WinningMove g sides (origin g k) (target g k) → mark g o k ≡ 1) → Marking g sides first (k + 1) o
  marking_more this = record {
    winners = m.winners;
    zero_or_one = m.zero_or_one;
    sound = m.sound;
    complete = λ j h. complete j h (cases_eq j k);
    behind = m.behind;
  }
    where
      complete : (j : ℕ) → j < k + 1 → (j ≡ k) ⊎ (j ≡ k → ⊥) → WinningMove g sides (origin g j) (target g j) → mark g o j ≡ 1
      complete j h (inl e) x = ap (λ (i : ℕ). mark g o i) e ∙ this (subst (λ (i : ℕ). WinningMove g sides (origin g i) (target g i)) e x)
      complete j h (inr d) x = m.complete j (omega arith) x

  -- one more is marked, a winning move
  pub marking_set : k < edges g → length g + k < length o → WinningMove g sides (origin g k) (target g k) → {q : List ℕ} → q ≡ set o (length g + k) 1 → Marking g sides first (k + 1) q
  marking_set inside room-for x {q} e = subst (Marking g sides first (k + 1)) (sym e) (record {
    winners = λ n h. get_or-set_other o (length g + k) n 1 0 (λ d. omega arith) ∙ m.winners n h;
    zero_or_one = λ j h. below j h (cases_eq j k);
    sound = λ j h. sound j h (cases_eq j k);
    complete = λ j h. complete j h (cases_eq j k);
    behind = λ i h. get_or-set_other o (length g + k) i 1 0 (λ d. omega arith) ∙ m.behind i h;
  })
    where
      p : List ℕ
      p = set o (length g + k) 1

      now : (j : ℕ) → j ≡ k → mark g p j ≡ 1
      now j d = ap (mark g p) d ∙ get_or-set_same o (length g + k) 1 0 room-for

      same : (j : ℕ) → (j ≡ k → ⊥) → mark g p j ≡ mark g o j
      same j d = get_or-set_other o (length g + k) (length g + j) 1 0 (λ z. d (omega arith))

      below : (j : ℕ) → j < edges g → (j ≡ k) ⊎ (j ≡ k → ⊥) → mark g p j < 2
      below j h (inl d) = omega (arith, now j d)
      below j h (inr d) = omega (arith, same j d, m.zero_or_one j h)

      sound : (j : ℕ) → j < edges g → (j ≡ k) ⊎ (j ≡ k → ⊥) → mark g p j ≡ 1 → WinningMove g sides (origin g j) (target g j)
      sound j h (inl d) z = subst (λ (i : ℕ). WinningMove g sides (origin g i) (target g i)) (sym d) x
      sound j h (inr d) z = m.sound j h (sym (same j d) ∙ z)

      complete : (j : ℕ) → j < k + 1 → (j ≡ k) ⊎ (j ≡ k → ⊥) → WinningMove g sides (origin g j) (target g j) → mark g p j ≡ 1
      complete j h (inl d) y = now j d
      complete j h (inr d) y = same j d ∙ m.complete j (omega arith) y

-- a mark that a plan makes
pub noted_makes : {g : Game} {sides : ℕ → ℕ} {w : ℕ} {plan : ℕ → ℕ} {o p : List ℕ} {k : ℕ} → k < edges g → Noted g sides w plan k (edges g) o p → Makes g sides w plan (origin g k) (target g k) → mark g p k ≡ 1
noted_makes {g} {sides} {w} {plan} {o} {p} {k} h n x = go (n.set k (omega arith) h)
  where
    go : SetIf (Makes g sides w plan (origin g k) (target g k)) (mark g o k) (mark g p k) → mark g p k ≡ 1
    go (inl t) = t.1
    go (inr t) = absurd (t.0 x)

-- ---- all moves are seen to

-- a winning move, where the winners are told otherwise
winning_as : {g : Game} (a b : ℕ → ℕ) → ((n : ℕ) → n < length g → a n ≡ b n) → {n m : ℕ} → n < length g → WinningMove g a n m → WinningMove g b n m
winning_as {g} a b same {n} {m} h x = record {
  turn = x.turn ∙ same n h;
  plan = x.plan;
  wins = subst (λ (v : ℕ). WinsFrom g v x.plan (Given g b v)) (same n h) (given_as g a b refl same x.wins);
  makes = x.makes;
}

pub marked_all : {g : Game} {a first o : List ℕ} → IsAnswer g a → Marking g (side a) first (edges g) o → Marked g o
marked_all {g} {a} {first} {o} answer m = record {
  one_of_two = λ n h. omega (arith, m.winners n h, answer.one_of_two n h);
  won = λ w l. (goes a, given_as g (side a) (winner o) refl (λ n h. sym (m.winners n h)) (answer_wins answer w l));
  zero_or_one = m.zero_or_one;
  exactly = λ k h.
      let l = from_place g (origin g k) (target g k) (step_may g k h) in
      (λ e. winning_as (side a) (winner o) (λ n i. sym (m.winners n i)) l (m.sound k h e), λ x. m.complete k h (winning_as (winner o) (side a) m.winners l x));
}

-- ---- the winners are written

-- those of the first k places
pub record Winners (answer first : List ℕ) (k : ℕ) (o : List ℕ) : Type 0 where
  pub told : (n : ℕ) → n < k → winner o n ≡ get_or answer (2 * n) 0
  pub rest : (i : ℕ) → k ≤ i → get_or o i 0 ≡ get_or first i 0

pub winners_none : (answer first : List ℕ) → Winners answer first 0 first
winners_none answer first = record { told = λ n h. absurd (omega arith); rest = λ i h. refl }

pub winners_more : {answer first o : List ℕ} {k : ℕ} → Winners answer first k o → k < length o → Winners answer first (k + 1) (set o k (get_or answer (2 * k) 0))
winners_more {answer} {first} {o} {k} x inside = record {
  told = λ n h. of n h (cases_eq n k);
  rest = λ i h. get_or-set_other o k i (get_or answer (2 * k) 0) 0 (λ e. omega arith) ∙ x.rest i (omega arith);
}
  where
    of : (n : ℕ) → n < k + 1 → (n ≡ k) ⊎ (n ≡ k → ⊥) → winner (set o k (get_or answer (2 * k) 0)) n ≡ get_or answer (2 * n) 0
    of n h (inl e) = ap (winner (set o k (get_or answer (2 * k) 0))) e ∙ get_or-set_same o k (get_or answer (2 * k) 0) 0 inside ∙ ap (λ (i : ℕ). get_or answer (2 * i) 0) (sym e)
    of n h (inr d) = get_or-set_other o k n (get_or answer (2 * k) 0) 0 d ∙ x.told n (omega arith)

-- ---- at the start

pub begun_is : {g : Game} {first o : List ℕ} (a : List ℕ) (places moves : ℕ) → places ≡ length g → moves ≡ edges g → 2 * length g ≤ length a →
    ((n : ℕ) → n < places → winner o n ≡ get_or a (2 * n) 0) → ((k : ℕ) → k < moves → get_or o (places + k) 0 ≡ 0) → ((i : ℕ) → places + moves ≤ i → get_or o i 0 ≡ get_or first i 0) → Begun g (side a) first o
begun_is {g} {first} {o} a places moves e d long winners none behind = record {
  winners = λ n h. winners n (omega arith) ∙ sym (side_at a n (omega arith));
  none = λ k h. subst (λ (i : ℕ). get_or o (i + k) 0 ≡ 0) e (none k (omega arith));
  behind = λ i h. behind i (omega arith);
}

-- and with the moves of the answer's plans
pub marking_answer : {g : Game} {a first o p q : List ℕ} → IsAnswer g a → Begun g (side a) first o → Noted g (side a) 0 (goes a) 0 (edges g) o p → Noted g (side a) 1 (goes a) 0 (edges g) p q → Marking g (side a) first 0 q
marking_answer {g} answer begun even odd =
    marking_plan (marking_plan (marking_none begun) answer.wins_0 even) answer.wins_1 odd
