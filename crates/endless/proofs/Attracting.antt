-- There is an attractor of any targets in a subgame: it is made by adding one place at a time.
use Rattle.std.proofs.Common.{◌≡◌, ℕ, zero, suc, ◌<◌, ◌≤◌, true, T, eqb, ◌⊎◌, List, [], length, sym, refl, ap, ◌∙◌, subst, inl, inr, arith, eqb→eq}
use Rattle.std.proofs.lemmas.Bool.{cases_eq}
use Rattle.endless.specs.Games.{nth, opt, Game, whose, Among, May}
use Rattle.endless.specs.Sets.{Set, In, Out, Within, minus, size, Each}
use Rattle.endless.specs.Subgames.{Subgame}
use Rattle.endless.specs.Attractors.{Attractor, Attracting}
use Rattle.endless.proofs.Tests.{from_eq}
use Rattle.endless.proofs.Pigeonhole.{search_below}
use Rattle.endless.proofs.Sets.{in_or_out, merge, merge_in, merge_out, minus_in, minus_within, minus_out, size_less, size_some, meets, each_at}

-- a function with another value at one place
pub put : {C : Type 0} → (ℕ → C) → ℕ → C → ℕ → C
put f n c = merge (λ m. eqb m n) (λ m. c) f

pub put_at : {C : Type 0} (f : ℕ → C) (n : ℕ) (c : C) (m : ℕ) → m ≡ n → put f n c m ≡ c
unfolding put
put_at f n c m e = merge_in (λ m. eqb m n) (λ m. c) f m (from_eq m n e)

pub put_else : {C : Type 0} (f : ℕ → C) (n : ℕ) (c : C) (m : ℕ) → (m ≡ n → ⊥) → put f n c m ≡ f m
unfolding put
put_else f n c m d = merge_out (λ m. eqb m n) (λ m. c) f m (λ t. d (eqb→eq m n t))

-- a place that is to be added, with the move to it that its side makes; and one that is not
pub record Comes (g : Game) (U : Set) (w : ℕ) (A : Set) (n : ℕ) : Type 0 where
  pub inside : In U n
  pub outside : Out A n
  pub move : ℕ
  pub brings : whose g n ≡ w → May g n move × In A move
  pub has_to : (m : ℕ) → (whose g n ≡ w → ⊥) → May g n m → In U m → In A m

pub record Stays (g : Game) (U : Set) (w : ℕ) (A : Set) (n : ℕ) : Type 0 where
  pub no_way_in : (m : ℕ) → In U n → Out A n → whose g n ≡ w → May g n m → In A m → ⊥
  pub way_past : In U n → Out A n → (whose g n ≡ w → ⊥) → (m : ℕ) × May g n m × In U m × Out A m

module _ (g : Game) (U : Set) (w : ℕ) where
  moves_of : ℕ → List ℕ
  moves_of n = opt (nth g n) [] (λ p. p.moves)

  comes_or_stays : (A : Set) (n : ℕ) → Comes g U w A n ⊎ Stays g U w A n
  unfolding moves_of
  comes_or_stays A n = go (in_or_out U n) (in_or_out A n) (cases_eq (whose g n) w)
    where
      own : In U n → Out A n → whose g n ≡ w → ((m : ℕ) × Among m (moves_of n) × In A m) ⊎ Each (Out A) (moves_of n) → Comes g U w A n ⊎ Stays g U w A n
      own u a e (inl t) = inl (record { inside = u; outside = a; move = t.0; brings = λ e. (t.1, t.2); has_to = λ m d. absurd (d e) })
      own u a e (inr o) = inr (record { no_way_in = λ m u a e may x. each_at (Out A) m (moves_of n) o may x; way_past = λ u a d. absurd (d e) })

      others : In U n → Out A n → (whose g n ≡ w → ⊥) → ((m : ℕ) × Among m (moves_of n) × In (minus U A) m) ⊎ Each (Out (minus U A)) (moves_of n) → Comes g U w A n ⊎ Stays g U w A n
      others u a d (inl t) = inr (record { no_way_in = λ m u a e. absurd (d e); way_past = λ u a d. (t.0, t.1, minus_within U A t.0 t.2, minus_out U A t.0 t.2) })
      others u a d (inr o) = inl (record { inside = u; outside = a; move = 0; brings = λ e. absurd (d e); has_to = λ m d may v. inside m may v (in_or_out A m) })
        where
          inside : (m : ℕ) → May g n m → In U m → In A m ⊎ Out A m → In A m
          inside m may v (inl x) = x
          inside m may v (inr x) = absurd (each_at (Out (minus U A)) m (moves_of n) o may (minus_in U A m v x))

      go : In U n ⊎ Out U n → In A n ⊎ Out A n → (whose g n ≡ w) ⊎ (whose g n ≡ w → ⊥) → Comes g U w A n ⊎ Stays g U w A n
      go (inr u) s e = inr (record { no_way_in = λ m x. absurd (u x); way_past = λ x. absurd (u x) })
      go (inl u) (inl a) e = inr (record { no_way_in = λ m x y. absurd (y a); way_past = λ x y. absurd (y a) })
      go (inl u) (inr a) (inl e) = own u a e (meets A (moves_of n))
      go (inl u) (inr a) (inr d) = others u a d (meets (minus U A) (moves_of n))

  module _ (D A : Set) (plan rank : ℕ → ℕ) (bound : ℕ) (att : Attracting g U w D A plan rank bound) where
    pub finished : ((n : ℕ) → In U n → Stays g U w A n) → Attractor g U w D A plan rank
    finished stays = record {
      within = att.within;
      targets = att.targets;
      own = att.own;
      forced = att.forced;
      no_way_in = λ n m u a e may x. (stays n u).no_way_in m u a e may x;
      way_past = λ n u a d. (stays n u).way_past u a d;
    }

    -- one place more: a set that has it and A's places and no others, and a plan that moves from it as it should and else as before
    module _ (n : ℕ) (c : Comes g U w A n) (B : Set) (π : ℕ → ℕ) (here : In B n) (keeps : Within A B) (which : (m : ℕ) → In B m → (m ≡ n) ⊎ In A m) (moves : whose g n ≡ w → π n ≡ c.move) (same : (m : ℕ) → In A m → π m ≡ plan m) where
      pub rank+ : ℕ → ℕ
      rank+ = put rank n bound

      rank_here : (m : ℕ) → m ≡ n → rank+ m ≡ bound
      unfolding rank+
      rank_here m e = put_at rank n bound m e

      rank_there : (m : ℕ) → In A m → rank+ m ≡ rank m
      unfolding rank+
      rank_there m x = put_else rank n bound m (λ e. c.outside (subst (λ (k : ℕ). In A k) e x))

      pub added : Attracting g U w D B π rank+ (suc bound)
      added = record { within = within; targets = λ m d. keeps m (att.targets m d); own = own; forced = forced; ranks = ranks }
        where
          within : (m : ℕ) → In B m → In U m
          within m x = go (which m x)
            where
              go : (m ≡ n) ⊎ In A m → In U m
              go (inl e) = subst (λ (k : ℕ). In U k) (sym e) c.inside
              go (inr y) = att.within m y

          own : (m : ℕ) → In B m → Out D m → whose g m ≡ w → May g m (π m) × In B (π m) × (rank+ (π m) < rank+ m)
          own m x d e = go (which m x)
            where
              go : (m ≡ n) ⊎ In A m → May g m (π m) × In B (π m) × (rank+ (π m) < rank+ m)
              go (inl q) =
                  let own-n : whose g n ≡ w = subst (λ (k : ℕ). whose g k ≡ w) q e in
                  let t = c.brings own-n in
                  let l : rank+ c.move < rank+ m = omega (arith, rank_there c.move t.1, rank_here m q, att.ranks c.move t.1) in
                  subst (λ (k : ℕ). May g m k × In B k × (rank+ k < rank+ m)) (sym (ap π q ∙ moves own-n)) (subst (λ (k : ℕ). May g k c.move) (sym q) t.0, keeps c.move t.1, l)
              go (inr y) =
                  let t = att.own m y d e in
                  let l : rank+ (plan m) < rank+ m = omega (arith, rank_there (plan m) t.1, rank_there m y, t.2) in
                  subst (λ (k : ℕ). May g m k × In B k × (rank+ k < rank+ m)) (sym (same m y)) (t.0, keeps (plan m) t.1, l)

          forced : (m k : ℕ) → In B m → Out D m → (whose g m ≡ w → ⊥) → May g m k → In U k → In B k × (rank+ k < rank+ m)
          forced m k x d e may u = go (which m x)
            where
              go : (m ≡ n) ⊎ In A m → In B k × (rank+ k < rank+ m)
              go (inl q) =
                  let y = c.has_to k (λ f. e (subst (λ (j : ℕ). whose g j ≡ w) (sym q) f)) (subst (λ (j : ℕ). May g j k) q may) u in
                  (keeps k y, omega (arith, rank_there k y, rank_here m q, att.ranks k y))
              go (inr y) = let t = att.forced m k y d e may u in (keeps k t.0, omega (arith, rank_there k t.0, rank_there m y, t.1))

          ranks : (m : ℕ) → In B m → rank+ m < suc bound
          ranks m x = go (which m x)
            where
              go : (m ≡ n) ⊎ In A m → rank+ m < suc bound
              go (inl q) = omega (arith, rank_here m q)
              go (inr y) = omega (arith, rank_there m y, att.ranks m y)

      fewer : (b : ℕ) → n < b → size (minus U B) b < size (minus U A) b
      fewer b l = size_less (minus U B) (minus U A) b n (λ m x. minus_in U A m (minus_within U B m x) (λ y. minus_out U B m x (keeps m y))) l (minus_in U A n c.inside c.outside) (λ x. minus_out U B n x here)

-- a set with one place more
module _ (A : Set) (n : ℕ) where
  with_here : In (put A n true) n
  with_here = subst T (sym (put_at A n true n refl)) tt

  with_keeps : Within A (put A n true)
  with_keeps m x = go (cases_eq m n)
    where
      go : (m ≡ n) ⊎ (m ≡ n → ⊥) → In (put A n true) m
      go (inl e) = subst T (sym (put_at A n true m e)) tt
      go (inr e) = subst T (sym (put_else A n true m e)) x

  with_which : (m : ℕ) → In (put A n true) m → (m ≡ n) ⊎ In A m
  with_which m x = go (cases_eq m n)
    where
      go : (m ≡ n) ⊎ (m ≡ n → ⊥) → (m ≡ n) ⊎ In A m
      go (inl e) = inl e
      go (inr e) = inr (subst T (put_else A n true m e) x)

abbrev pub Attracted : Game → Set → ℕ → Set → Type 0
Attracted g U w D = (A : Set) × (plan : ℕ → ℕ) × (rank : ℕ → ℕ) × Attractor g U w D A plan rank

go_on : (g : Game) (U : Set) (w : ℕ) (D : Set) → Subgame g U → (k : ℕ) (A : Set) (plan rank : ℕ → ℕ) (bound : ℕ) → Attracting g U w D A plan rank bound → size (minus U A) (length g) ≤ k → Attracted g U w D
unfolding put rank+
go_on g U w D sub zero A plan rank bound att l = (A, plan, rank, finished g U w D A plan rank bound att (λ n u. go n u (comes_or_stays g U w A n)))
  where
    go : (n : ℕ) → In U n → Comes g U w A n ⊎ Stays g U w A n → Stays g U w A n
    go n u (inl c) = absurd (omega (arith, l, size_some (minus U A) (length g) n (sub.places n u) (minus_in U A n u c.outside)))
    go n u (inr s) = s
go_on g U w D sub (suc k) A plan rank bound att l = go (go_on g U w D sub k) (search_below {P = Comes g U w A} {Q = Stays g U w A} (comes_or_stays g U w A) (length g))
  where
    go : ((A : Set) (plan rank : ℕ → ℕ) (bound : ℕ) → Attracting g U w D A plan rank bound → size (minus U A) (length g) ≤ k → Attracted g U w D) → ((n : ℕ) × (n < length g) × Comes g U w A n) ⊎ ((n : ℕ) → n < length g → Stays g U w A n) → Attracted g U w D
    go ih (inl t) =
        let n = t.0 in
        let c = t.2 in
        let same : (m : ℕ) → In A m → put plan n c.move m ≡ plan m = λ m x. put_else plan n c.move m (λ e. c.outside (subst (λ (k : ℕ). In A k) e x)) in
        ih (put A n true) (put plan n c.move) (put rank n bound) (suc bound)
        (added g U w D A plan rank bound att n c (put A n true) (put plan n c.move) (with_here A n) (with_keeps A n) (with_which A n) (λ e. put_at plan n c.move n refl) same)
        (omega (arith, l, fewer g U w D A plan rank bound att n c (put A n true) (put plan n c.move) (with_here A n) (with_keeps A n) (with_which A n) (λ e. put_at plan n c.move n refl) same (length g) t.1))
    go ih (inr s) = (A, plan, rank, finished g U w D A plan rank bound att (λ n u. s n (sub.places n u)))

pub attract : (g : Game) (U : Set) (w : ℕ) (D : Set) → Subgame g U → Within D U → Attracted g U w D
attract g U w D sub inside = go_on g U w D sub (size (minus U D) (length g)) D (λ n. n) (λ n. 0) 1 start (omega arith)
  where
    start : Attracting g U w D D (λ n. n) (λ n. 0) 1
    start = record {
      within = inside;
      targets = λ n d. d;
      own = λ n x d. absurd (d x);
      forced = λ n m x d. absurd (d x);
      ranks = λ n x. omega arith;
    }
