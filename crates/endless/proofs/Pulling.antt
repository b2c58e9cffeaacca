-- An attractor made by going through a queue of places and, at each, through the places that may move to it.
use Rattle.std.proofs.Common.{◌≡◌, ℕ, suc, ◌⊎◌, List, [], ◌∷◌, sym, refl, subst, inl, inr, arith}
use Rattle.endless.specs.Games.{Game, whose, Among, first, later, May}
use Rattle.endless.specs.Sets.{Set, In, Out, Within, minus}
use Rattle.endless.specs.Attractors.{Attractor}
use Rattle.endless.specs.Pulling.{Pulling}
use Rattle.endless.proofs.Sets.{in_or_out, minus_in, minus_within, minus_out}
use Rattle.endless.proofs.Attracting.{Comes, Stays, rank+, added, finished}

-- not among one more
not_among : {n k : ℕ} {ns : List ℕ} → (n ≡ k → ⊥) → (Among n ns → ⊥) → Among n (k ∷ ns) → ⊥
not_among {n} d o first = d refl
not_among {n} d o (later a) = o a

module _ (g : Game) (U : Set) (w : ℕ) (D : Set) where
  -- before the first: all but the targets is left
  pub pulling_none : (L : Set) (P : ℕ → Type 0) (plan : ℕ → ℕ) → Within L U → ((n : ℕ) → In U n → Out L n → In D n) → Within D U → ((n : ℕ) → In D n → Out L n) → ((n : ℕ) → P n → ⊥) → Pulling g U w D L P [] plan
  pulling_none L P plan left targets inside apart none = record {
    left = left;
    rank = λ n. 0;
    bound = 1;
    so_far = record {
      within = λ n x. minus_within U L n x;
      targets = λ n d. minus_in U L n (inside n d) (apart n d);
      own = λ n x o. absurd (o (targets n (minus_within U L n x) (minus_out U L n x)));
      forced = λ n m x o. absurd (o (targets n (minus_within U L n x) (minus_out U L n x)));
      ranks = λ n x. omega arith;
    };
    passed = λ n p. absurd (none n p);
    no_way_in = λ n m l o e may p. none m p;
  }

  module _ (L : Set) (P : ℕ → Type 0) (plan : ℕ → ℕ) where
    -- the next place of the queue is taken: all that may move to it is to be looked at
    pub pulling_next : (Q : ℕ → Type 0) (to : ℕ) (ns : List ℕ) → Out L to → ((n : ℕ) → Q n → P n ⊎ (n ≡ to)) → ((n : ℕ) → May g n to → Among n ns) → Pulling g U w D L P [] plan → Pulling g U w D L Q ns plan
    pulling_next Q to ns out which all p = record {
      left = p.left;
      rank = p.rank;
      bound = p.bound;
      so_far = p.so_far;
      passed = λ n q. passed n (which n q);
      no_way_in = λ n m l o e may q. shut n m l o e may (which m q);
    }
      where
        passed : (n : ℕ) → P n ⊎ (n ≡ to) → Out L n
        passed n (inl q) = p.passed n q
        passed n (inr e) = subst (λ (k : ℕ). Out L k) (sym e) out

        moves_to : (n m : ℕ) → (Among n ns → ⊥) → May g n m → m ≡ to → ⊥
        moves_to n m o may e = o (all n (subst (λ (k : ℕ). May g n k) e may))

        shut : (n m : ℕ) → In L n → (Among n ns → ⊥) → whose g n ≡ w → May g n m → P m ⊎ (m ≡ to) → ⊥
        shut n m l o e may (inl q) = p.no_way_in n m l (λ a. elim a [ ]) e may q
        shut n m l o e may (inr q) = moves_to n m o may q

    -- what has been passed may be said in other words
    pub pulling_as : (Q : ℕ → Type 0) (ns : List ℕ) → ((n : ℕ) → Q n → P n) → Pulling g U w D L P ns plan → Pulling g U w D L Q ns plan
    pulling_as Q ns to p = record {
      left = p.left;
      rank = p.rank;
      bound = p.bound;
      so_far = p.so_far;
      passed = λ n q. p.passed n (to n q);
      no_way_in = λ n m l o e may q. p.no_way_in n m l o e may (to m q);
    }

    module _ (k : ℕ) (ns : List ℕ) (p : Pulling g U w D L P (k ∷ ns) plan) where
      -- a place that is not left is passed over
      pub pulling_skip : Out L k → Pulling g U w D L P ns plan
      pulling_skip out = record {
        left = p.left;
        rank = p.rank;
        bound = p.bound;
        so_far = p.so_far;
        passed = p.passed;
        no_way_in = λ n m l o. p.no_way_in n m l (not_among (other_place n l) o);
      }
        where
          other_place : (n : ℕ) → In L n → n ≡ k → ⊥
          other_place n l e = out (subst (λ (j : ℕ). In L j) e l)

      -- a place of the other's stays
      pub pulling_stays : (whose g k ≡ w → ⊥) → Pulling g U w D L P ns plan
      pulling_stays theirs = record {
        left = p.left;
        rank = p.rank;
        bound = p.bound;
        so_far = p.so_far;
        passed = p.passed;
        no_way_in = λ n j x o e. p.no_way_in n j x (not_among (λ q. theirs (subst (λ (i : ℕ). whose g i ≡ w) q e)) o) e;
      }

      -- a place comes: L is left without it, and the plan moves from it as it should and else as before
      pub pulling_comes : (M : Set) (π : ℕ → ℕ) (c : Comes g U w (minus U L) k) → Out M k → Within M L → ((n : ℕ) → In L n → (n ≡ k) ⊎ In M n) → (whose g k ≡ w → π k ≡ c.move) → ((n : ℕ) → In U n → Out L n → π n ≡ plan n) → Pulling g U w D M P ns π
      pulling_comes M π c out less which moves same = record {
        left = λ n x. p.left n (less n x);
        rank = rank+ g U w D (minus U L) plan p.rank p.bound p.so_far k c (minus U M) π here keeps was moves same_plan;
        bound = suc p.bound;
        so_far = added g U w D (minus U L) plan p.rank p.bound p.so_far k c (minus U M) π here keeps was moves same_plan;
        passed = λ n q x. p.passed n q (less n x);
        no_way_in = λ n m x o. p.no_way_in n m (less n x) (not_among (other_place n x) o);
      }
        where
          other_place : (n : ℕ) → In M n → n ≡ k → ⊥
          other_place n x e = out (subst (λ (j : ℕ). In M j) e x)

          here : In (minus U M) k
          here = minus_in U M k c.inside out

          keeps : Within (minus U L) (minus U M)
          keeps n x = minus_in U M n (minus_within U L n x) (λ y. minus_out U L n x (less n y))

          was : (n : ℕ) → In (minus U M) n → (n ≡ k) ⊎ In (minus U L) n
          was n x = go (in_or_out L n)
            where
              again : (n ≡ k) ⊎ In M n → (n ≡ k) ⊎ In (minus U L) n
              again (inl e) = inl e
              again (inr y) = absurd (minus_out U M n x y)

              go : In L n ⊎ Out L n → (n ≡ k) ⊎ In (minus U L) n
              go (inl l) = again (which n l)
              go (inr o) = inr (minus_in U L n (minus_within U M n x) o)

          same_plan : (n : ℕ) → In (minus U L) n → π n ≡ plan n
          same_plan n x = same n (minus_within U L n x) (minus_out U L n x)

    -- where anything is left, all else is passed, and what is left has moves that stay in it: it is the attractor
    pub pulling_all : ((k : ℕ) → In L k → (n : ℕ) → In U n → Out L n → P n) → ((n : ℕ) → In L n → (m : ℕ) × May g n m × In L m) → (p : Pulling g U w D L P [] plan) → Attractor g U w D (minus U L) plan p.rank
    pulling_all all on p = finished g U w D (minus U L) plan p.rank p.bound p.so_far stays
      where
        is_left : (n : ℕ) → In U n → Out (minus U L) n → In L n ⊎ Out L n → In L n
        is_left n u o (inl l) = l
        is_left n u o (inr l) = absurd (o (minus_in U L n u l))

        gone : (n m : ℕ) → In L n → In (minus U L) m → P m
        gone n m l x = all n l m (minus_within U L m x) (minus_out U L m x)

        stays : (n : ℕ) → In U n → Stays g U w (minus U L) n
        stays n u = record {
          no_way_in = λ m u o e may x. let l = is_left n u o (in_or_out L n) in p.no_way_in n m l (λ a. elim a [ ]) e may (gone n m l x);
          way_past = λ u o d. let t = on n (is_left n u o (in_or_out L n)) in (t.0, t.1, p.left t.0 t.2, λ x. minus_out U L t.0 x t.2);
        }
