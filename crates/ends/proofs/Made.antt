-- What is made of a game with ends, place by place; and that the same plans win in both from the same places.
use Rattle.std.proofs.Common.{◌≡◌, ℕ, zero, suc, ◌+◌, ◌-◌, ◌%◌, ◌<◌, Bool, true, false, ◌⊎◌, List, [], ◌∷◌, length, sym, refl, ap, ◌∙◌, subst, inl, inr, arith}
use mathlib.Core.Option.{Option, some, none}
use Rattle.std.proofs.lemmas.Bool.{cases_eq}
use Rattle.endless.specs.Games.{Place, Game, nth, opt, pick, some_of, whose, weight, Among, May, Play, Plays, ByPlan, Wins, other}
use Rattle.endless.specs.Graph.{moves}
use Rattle.endless.specs.Says.{WinsFrom}
use Rattle.endless.proofs.Among.{none_among, only_among}
use Rattle.endless.proofs.Places.{is_other}
use Rattle.ends.specs.Ends.{NoMoves, PlaysEnd, ByPlanEnd, WinsEnd, WinsFromEnds, mended, made_from, made}

-- ---- the places of the made game

mend_at : ℕ → Option Place → Option Place
mend_at i o = opt o none (λ p. some (mended i p))

nth_made : (g : Game) (i n : ℕ) → nth (made_from i g) n ≡ mend_at (i + n) (nth g n)
unfolding mend_at
nth_made [] i n = refl
nth_made (p ∷ ps) i zero = let z : i + 0 ≡ i = omega arith in ap (λ (k : ℕ). some (mended k p)) (sym z)
nth_made (p ∷ ps) i (suc n) = let z : suc i + n ≡ i + suc n = omega arith in nth_made ps (suc i) n ∙ ap (λ (k : ℕ). mend_at k (nth ps n)) z

nth_mended : (g : Game) (n : ℕ) → nth (made g) n ≡ mend_at n (nth g n)
nth_mended g n = let z : 0 + n ≡ n = omega arith in nth_made g 0 n ∙ ap (λ (k : ℕ). mend_at k (nth g n)) z

nth_some : (g : Game) (n : ℕ) (p : Place) → nth g n ≡ some p → n < length g
nth_some [] n p e = let z : ◌≡◌ {A = ℕ} 0 1 = cc in absurd (omega arith)
nth_some (q ∷ qs) zero p e = omega arith
nth_some (q ∷ qs) (suc n) p e = omega (arith, nth_some qs n p e)

-- a place with moves, or none at all, is as it was
pub record Kept (g : Game) (n : ℕ) : Type 0 where
  pub goes : moves (made g) n ≡ moves g n
  pub weighs : weight (made g) n ≡ weight g n

-- one without moves goes on at itself
pub record Loops (g : Game) (n : ℕ) : Type 0 where
  pub ends : NoMoves g n
  pub goes : moves (made g) n ≡ n ∷ []
  pub weighs : weight (made g) n ≡ other (whose g n)

pub kind : (g : Game) (n : ℕ) → Kept g n ⊎ Loops g n
unfolding mend_at
kind g n = at (nth g n) refl
  where
    in_made : (o : Option Place) → nth g n ≡ o → nth (made g) n ≡ mend_at n o
    in_made o e = nth_mended g n ∙ ap (mend_at n) e

    with_moves : (p : Place) (xs : List ℕ) → p.moves ≡ xs → nth g n ≡ some p → nth (made g) n ≡ some (pick (some_of xs) p (record { whose = p.whose; weight = other p.whose; moves = n ∷ [] })) → Kept g n ⊎ Loops g n
    with_moves p [] x e f = inr (record {
      ends = (nth_some g n p e, λ m. none_among m (moves g n) (ap (λ (o : Option Place). opt o [] (λ q. q.moves)) e ∙ x));
      goes = ap (λ (o : Option Place). opt o [] (λ q. q.moves)) f;
      weighs = ap (λ (o : Option Place). opt o 0 (λ q. q.weight)) f ∙ sym (ap (λ (o : Option Place). other (opt o 0 (λ q. q.whose))) e);
    })
    with_moves p (x ∷ xs) y e f = inl (record {
      goes = ap (λ (o : Option Place). opt o [] (λ q. q.moves)) (f ∙ sym e);
      weighs = ap (λ (o : Option Place). opt o 0 (λ q. q.weight)) (f ∙ sym e);
    })

    at : (o : Option Place) → nth g n ≡ o → Kept g n ⊎ Loops g n
    at none e = let f = in_made none e ∙ sym e in inl (record { goes = ap (λ (o : Option Place). opt o [] (λ q. q.moves)) f; weighs = ap (λ (o : Option Place). opt o 0 (λ q. q.weight)) f })
    at (some p) e = with_moves p p.moves refl e (in_made (some p) e)

pub whose_made : (g : Game) (n : ℕ) → whose (made g) n ≡ whose g n
unfolding mend_at
whose_made g n = ap (λ (o : Option Place). opt o 0 (λ q. q.whose)) (nth_mended g n) ∙ same (nth g n)
  where
    picked : (b : Bool) (p : Place) → (pick b p (record { whose = p.whose; weight = other p.whose; moves = n ∷ [] })).whose ≡ p.whose
    picked true p = refl
    picked false p = refl

    same : (o : Option Place) → opt (mend_at n o) 0 (λ q. q.whose) ≡ opt o 0 (λ q. q.whose)
    same none = refl
    same (some p) = picked (some_of p.moves) p

kept_to : {g : Game} {n : ℕ} → Kept g n → (m : ℕ) → May g n m → May (made g) n m
kept_to k m a = subst (λ (xs : List ℕ). Among m xs) (sym k.goes) a

kept_from : {g : Game} {n : ℕ} → Kept g n → (m : ℕ) → May (made g) n m → May g n m
kept_from k m a = subst (λ (xs : List ℕ). Among m xs) k.goes a

-- where there is a move, the place is kept
moving : (g : Game) (n m : ℕ) → May g n m → Kept g n
moving g n m a = of (kind g n)
  where
    of : Kept g n ⊎ Loops g n → Kept g n
    of (inl k) = k
    of (inr l) = absurd (l.ends.1 m a)

loops_to : {g : Game} {n : ℕ} → Loops g n → (m : ℕ) → May (made g) n m → m ≡ n
loops_to {g} {n} l m a = only_among m n (subst (λ (xs : List ℕ). Among m xs) l.goes a)

other_other : (w : ℕ) → w < 2 → other (other w) ≡ w
other_other zero h = refl
other_other (suc zero) h = refl
other_other (suc (suc w)) h = absurd (omega arith)

other_kind : (w : ℕ) → w < 2 → other w % 2 ≡ other w
other_kind zero h = refl
other_kind (suc w) h = refl

other_apart : (w : ℕ) → w < 2 → w % 2 ≡ other w → ⊥
other_apart zero h e = omega arith
other_apart (suc zero) h e = omega arith
other_apart (suc (suc w)) h e = omega arith

-- ---- plays that stay where there are moves are plays of both

-- the heaviest of a play is the same where the weights are
same_wins : (g h : Game) (f : Play) (w : ℕ) → ((i : ℕ) → weight g (f i) ≡ weight h (f i)) → Wins g w f → Wins h w f
same_wins g h f w e t = (
  t.0,
  record {
    from = t.1.from;
    none_heavier = λ i l. omega (arith, e i, t.1.none_heavier i l);
    again = λ i. let a = t.1.again i in (a.0, a.1, sym (e a.0) ∙ a.2);
  },
  t.2,
)

module _ (g : Game) (w : ℕ) (plan : ℕ → ℕ) (won : ℕ → Type 0) (two : w < 2) where
  -- ---- from the made game

  module _ (wins : WinsFrom (made g) w plan won) where
    own_made : (n : ℕ) → whose g n ≡ w → whose (made g) n ≡ w
    own_made n e = whose_made g n ∙ e

    -- at a place of its own without moves the side would lose the play that stays there
    no_end : (n : ℕ) → won n → whose g n ≡ w → Loops g n → ⊥
    no_end n x e l =
        let t = wins.may n x (own_made n e) in
        let back : plan n ≡ n = loops_to l (plan n) t.0 in
        let stays : May (made g) n n = subst (λ (m : ℕ). May (made g) n m) back t.0 in
        let heavy : weight (made g) n ≡ other w = l.weighs ∙ ap other e in
        wins.not_lost (λ i. n) x (λ i. stays) (λ i o. sym back)
        (other w, record { from = 0; none_heavier = λ i h. omega arith; again = λ i. (i, omega arith, heavy) }, other_kind w two)

    may_ends : (n : ℕ) → won n → whose g n ≡ w → May g n (plan n) × won (plan n)
    may_ends n x e = of (kind g n)
      where
        of : Kept g n ⊎ Loops g n → May g n (plan n) × won (plan n)
        of (inl k) = let t = wins.may n x (own_made n e) in (kept_from k (plan n) t.0, t.1)
        of (inr l) = absurd (no_end n x e l)

    held_ends : (n m : ℕ) → won n → (whose g n ≡ w → ⊥) → May g n m → won m
    held_ends n m x d a = wins.held n m x (λ o. d (sym (whose_made g n) ∙ o)) (kept_to (moving g n m a) m a)

    not_lost_ends : (f : Play) → won (f 0) → Plays g f → ByPlan g w plan f → Wins g (other w) f → ⊥
    not_lost_ends f x plays by lost =
        wins.not_lost f x (λ i. kept_to (moving g (f i) (f (suc i)) (plays i)) (f (suc i)) (plays i)) (λ i o. by i (sym (whose_made g (f i)) ∙ o))
        (same_wins g (made g) f (other w) (λ i. sym (moving g (f i) (f (suc i)) (plays i)).weighs) lost)

    not_ended_ends : (n : ℕ) (ms : List ℕ) → won n → PlaysEnd g n ms → ByPlanEnd g w plan n ms → WinsEnd g (other w) n ms → ⊥
    not_ended_ends n [] x plays by lost = plays.1 (plan n) (may_ends n x (lost ∙ other_other w two)).0
    not_ended_ends n (m ∷ ms) x plays by lost = not_ended_ends m ms (on (cases_eq (whose g n) w)) plays.1 by.1 lost
      where
        on : (whose g n ≡ w) ⊎ (whose g n ≡ w → ⊥) → won m
        on (inl e) = subst won (sym (by.0 e)) (may_ends n x e).1
        on (inr d) = held_ends n m x d plays.0

    pub wins_ends : WinsFromEnds g w plan won
    wins_ends = record { may = may_ends; held = held_ends; not_lost = not_lost_ends; not_ended = not_ended_ends }

  -- ---- to the made game

  module _ (sides : (n : ℕ) → whose g n < 2) (wins : WinsFromEnds g w plan won) where
    own : (n : ℕ) → whose (made g) n ≡ w → whose g n ≡ w
    own n e = sym (whose_made g n) ∙ e

    may_made : (n : ℕ) → won n → whose (made g) n ≡ w → May (made g) n (plan n) × won (plan n)
    may_made n x e = let t = wins.may n x (own n e) in (kept_to (moving g n (plan n) t.0) (plan n) t.0, t.1)

    held_made : (n m : ℕ) → won n → (whose (made g) n ≡ w → ⊥) → May (made g) n m → won m
    held_made n m x d a = of (kind g n)
      where
        of : Kept g n ⊎ Loops g n → won m
        of (inl k) = wins.held n m x (λ e. d (whose_made g n ∙ e)) (kept_from k m a)
        of (inr l) = subst won (sym (loops_to l m a)) x

    module _ (f : Play) (x : won (f 0)) (plays : Plays (made g) f) (by : ByPlan (made g) w plan f) (lost : Wins (made g) (other w) f) where
      stays : (i : ℕ) → won (f i)
      stays zero = x
      stays (suc i) = on (stays i) (cases_eq (whose (made g) (f i)) w)
        where
          on : won (f i) → (whose (made g) (f i) ≡ w) ⊎ (whose (made g) (f i) ≡ w → ⊥) → won (f (suc i))
          on y (inl e) = subst won (sym (by i e)) (may_made (f i) y e).1
          on y (inr d) = held_made (f i) (f (suc i)) y d (plays i)

      -- once at a place without moves, always
      for_ever : (i : ℕ) → Loops g (f i) → (d : ℕ) → f (d + i) ≡ f i
      for_ever i l zero = let z : 0 + i ≡ i = omega arith in ap f z
      for_ever i l (suc d) =
          let e = for_ever i l d in
          let z : suc d + i ≡ suc (d + i) = omega arith in
          ap f z ∙ loops_to l (f (suc (d + i))) (subst (λ (n : ℕ). May (made g) n (f (suc (d + i)))) e (plays (d + i)))

      -- at no moment is the play there: the side would win it
      never : (i : ℕ) → Loops g (f i) → ⊥
      never i l =
          let theirs : whose g (f i) ≡ other w = is_other w (whose g (f i)) two (sides (f i)) (λ e. l.ends.1 (plan (f i)) (wins.may (f i) (stays i) e).0) in
          let t = lost.1.again i in
          let d : (t.0 - i) + i ≡ t.0 = omega (arith, t.1) in
          let there : f t.0 ≡ f i = ap f (sym d) ∙ for_ever i l (t.0 - i) in
          let heavy : lost.0 ≡ w = sym t.2 ∙ ap (weight (made g)) there ∙ l.weighs ∙ ap other theirs ∙ other_other w two in
          other_apart w two (ap (λ (k : ℕ). k % 2) (sym heavy) ∙ lost.2)

      kept : (i : ℕ) → Kept g (f i)
      kept i = of (kind g (f i))
        where
          of : Kept g (f i) ⊎ Loops g (f i) → Kept g (f i)
          of (inl k) = k
          of (inr l) = absurd (never i l)

      not_lost_made : ⊥
      not_lost_made =
          wins.not_lost f x (λ i. kept_from (kept i) (f (suc i)) (plays i)) (λ i e. by i (whose_made g (f i) ∙ e)) (same_wins (made g) g f (other w) (λ i. (kept i).weighs) lost)

    pub wins_made : WinsFrom (made g) w plan won
    wins_made = record { may = may_made; held = held_made; not_lost = not_lost_made }
