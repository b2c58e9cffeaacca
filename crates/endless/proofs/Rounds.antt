-- From rounds to plays: a round gone through again and again is a play, in which the round's heaviest weight is the heaviest; so by a plan that wins every round is won.
use Rattle.std.proofs.Common.{◌≡◌, ℕ, zero, suc, ◌%◌, ◌<◌, ◌≤◌, max, ◌⊎◌, List, inl, inr, arith}
use Rattle.std.proofs.lemmas.Bool.{cases_eq, cases_lt}
use Rattle.endless.specs.Games.{Game, whose, weight, May, Play, Heaviest}
use Rattle.endless.specs.Says.{Round, last, then1, heaviest, RoundsAreWon}
use Rattle.endless.proofs.Places.{is_other}

-- the rest of a round, and then the round again and again
again : {g : Game} {w : ℕ} {plan : ℕ → ℕ} {n : ℕ} {ns : List ℕ} (whole : Round g w plan n ns n) (m : ℕ) {ms : List ℕ} → Round g w plan m ms n → Play
again whole m r zero = m
again {n = n} whole m (last a b) (suc i) = again whole n whole i
again whole m (then1 {m = k} a b r) (suc i) = again whole k r i

module _ (g : Game) (w : ℕ) (plan : ℕ → ℕ) (n : ℕ) (ns : List ℕ) (whole : Round g w plan n ns n) where
  again_plays : (i : ℕ) (m : ℕ) (ms : List ℕ) (r : Round g w plan m ms n) → May g (again whole m r i) (again whole m r (suc i))
  unfolding again
  again_plays zero m ms (last a b) = a
  again_plays zero m ms (then1 a b r) = a
  again_plays (suc i) m ms (last a b) = again_plays i n ns whole
  again_plays (suc i) m ms (then1 {m = k} {ns = ks} a b r) = again_plays i k ks r

  again_by : (i : ℕ) (m : ℕ) (ms : List ℕ) (r : Round g w plan m ms n) → whose g (again whole m r i) ≡ w → again whole m r (suc i) ≡ plan (again whole m r i)
  unfolding again
  again_by zero m ms (last a b) = b
  again_by zero m ms (then1 a b r) = b
  again_by (suc i) m ms (last a b) = again_by i n ns whole
  again_by (suc i) m ms (then1 {m = k} {ns = ks} a b r) = again_by i k ks r

  again_most : (i : ℕ) (m : ℕ) (ms : List ℕ) (r : Round g w plan m ms n) → heaviest g ms ≤ heaviest g ns → weight g (again whole m r i) ≤ heaviest g ns
  unfolding again
  again_most zero m ms (last a b) h = omega arith
  again_most zero m ms (then1 a b r) h = omega arith
  again_most (suc i) m ms (last a b) h = again_most i n ns whole (omega arith)
  again_most (suc i) m ms (then1 {m = k} {ns = ks} a b r) h = again_most i k ks r (omega arith)

  -- the heaviest of what is left comes
  once : (m : ℕ) (ms : List ℕ) (r : Round g w plan m ms n) → (j : ℕ) × (weight g (again whole m r j) ≡ heaviest g ms)
  unfolding again
  once m ms (last a b) = (0, omega arith)
  once m ms (then1 {m = k} {ns = ks} a b r) = go (once k ks r) (cases_lt (weight g m) (heaviest g ks))
    where
      go : (j : ℕ) × (weight g (again whole k r j) ≡ heaviest g ks) → (weight g m < heaviest g ks) ⊎ (heaviest g ks ≤ weight g m) → (j : ℕ) × (weight g (again whole m (then1 a b r) j) ≡ max (weight g m) (heaviest g ks))
      go t (inl l) = (suc t.0, omega (arith, t.1))
      go t (inr l) = (0, omega arith)

  -- the round comes to its start again, and then to its heaviest
  once_more : (i : ℕ) (m : ℕ) (ms : List ℕ) (r : Round g w plan m ms n) → (j : ℕ) × (i ≤ j) × (weight g (again whole m r j) ≡ heaviest g ns)
  unfolding again
  once_more zero m ms (last a b) = let t = once n ns whole in (suc t.0, omega arith, t.1)
  once_more zero m ms (then1 {m = k} {ns = ks} a b r) = let t = once_more zero k ks r in (suc t.0, omega arith, t.2)
  once_more (suc i) m ms (last a b) = let t = once_more i n ns whole in (suc t.0, omega (arith, t.1), t.2)
  once_more (suc i) m ms (then1 {m = k} {ns = ks} a b r) = let t = once_more i k ks r in (suc t.0, omega (arith, t.1), t.2)

  again_heaviest : Heaviest g (again whole n whole) (heaviest g ns)
  again_heaviest = record { from = 0; none_heavier = λ i l. again_most i n ns whole (omega arith); again = λ i. once_more i n ns whole }

pub rounds_are_won : RoundsAreWon
unfolding again
rounds_are_won s g w plan won n ns r l wins x whole = go (cases_eq (heaviest g ns % 2) w)
  where
    go : (heaviest g ns % 2 ≡ w) ⊎ (heaviest g ns % 2 ≡ w → ⊥) → heaviest g ns % 2 ≡ w
    go (inl e) = e
    go (inr e) = absurd (wins.not_lost (again whole n whole) x (λ i. again_plays g w plan n ns whole i n ns whole) (λ i. again_by g w plan n ns whole i n ns whole)
        (heaviest g ns, again_heaviest g w plan n ns whole, is_other w (heaviest g ns % 2) l (omega arith) e))
