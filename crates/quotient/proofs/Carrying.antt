-- A plan that wins in the smaller game, carried back, wins in the whole.
use Rattle.std.proofs.Common.{◌≡◌, ℕ, zero, suc, ◌<◌, Bool, cond, ◌&&◌, T, eqb, ltb, eqb→eq, ◌⊎◌, List, [], ◌∷◌, length, sym, ap, ◌∙◌, subst, inl, inr, arith, ltb→lt, lt→ltb}
use Rattle.std.proofs.lemmas.Bool.{cases_eq, eq-eqb, ne_eqb}
use Rattle.endless.specs.Games.{Game, Reads, whose, weight, Among, first, later, May, Play, Plays, ByPlan, Wins, other}
use Rattle.endless.specs.Graph.{moves}
use Rattle.endless.specs.Says.{WinsFrom}
use Rattle.endless.proofs.Places.{from_place, to_place}
use Rattle.endless.proofs.Theorems.{further}
use Rattle.endless.proofs.Tests.{both, from_both, true_T}
use Rattle.quotient.specs.Alike.{Merged}
use Rattle.quotient.specs.Says.{CarriedBack, PlanCarries, SameWinners, Theorems}

-- the first of some moves into a part
abbrev pub into : (ℕ → ℕ) → ℕ → List ℕ → ℕ
into to q [] = 0
into to q (m ∷ ms) = cond (eqb (to m) q) m (into to q ms)

pub into_is : (to : ℕ → ℕ) (q m : ℕ) (ms : List ℕ) → Among m ms → to m ≡ q → Among (into to q ms) ms × (to (into to q ms) ≡ q)
into_is to q m [] a e = elim a [ ]
into_is to q m (x ∷ ms) a e = go (cases_eq (to x) q) (later_is m e a (λ b. into_is to q m ms b e))
  where
    later_is : (k : ℕ) → to k ≡ q → Among k (x ∷ ms) → (Among k ms → Among (into to q ms) ms × (to (into to q ms) ≡ q)) → (to x ≡ q → ⊥) → Among (into to q ms) ms × (to (into to q ms) ≡ q)
    later_is k s first rest d = absurd (d s)
    later_is k s (later b) rest d = rest b

    go : (to x ≡ q) ⊎ (to x ≡ q → ⊥) → ((to x ≡ q → ⊥) → Among (into to q ms) ms × (to (into to q ms) ≡ q)) → Among (into to q (x ∷ ms)) (x ∷ ms) × (to (into to q (x ∷ ms)) ≡ q)
    go (inl is) rest = subst (λ (b : Bool). Among (cond b x (into to q ms)) (x ∷ ms) × (to (cond b x (into to q ms)) ≡ q)) (sym (eq-eqb (to x) q is)) (first, is)
    go (inr d) rest = let t = rest d in subst (λ (b : Bool). Among (cond b x (into to q ms)) (x ∷ ms) × (to (cond b x (into to q ms)) ≡ q)) (sym (ne_eqb (to x) q d)) (later t.0, t.1)

module _ {s : List ℕ} {g h : Game} {to : ℕ → ℕ} (reads : Reads s g) (merged : Merged g h to) where
  module _ (w : ℕ) (plan : ℕ → ℕ) (won : ℕ → Bool) (wins : WinsFrom h w plan (λ p. T (won p))) where
    own : (n : ℕ) → n < length g → whose g n ≡ w → whose h (to n) ≡ w
    own n l e = merged.owns n l ∙ e

    abbrev pub carried : ℕ → ℕ
    carried n = into to (plan (to n)) (moves g n)

    pub is_carried : CarriedBack g to w plan won carried
    is_carried n l x e =
        let t = merged.back n (plan (to n)) l (wins.may (to n) x (own n l e)).0 in
        into_is to (plan (to n)) t.0 (moves g n) t.1 t.2

    -- a play of the whole game becomes one of the smaller, with the same sides and weights
    module _ (back : ℕ → ℕ) (carries : CarriedBack g to w plan won back) where
      abbrev Stays : ℕ → Type 0
      Stays n = (n < length g) × T (won (to n))

      may : (n : ℕ) → Stays n → whose g n ≡ w → May g n (back n) × Stays (back n)
      may n x e =
          let t = carries n x.0 x.1 e in
          (t.0, (to_place reads n (back n) t.0, subst (λ (p : ℕ). T (won p)) (sym t.1) (wins.may (to n) x.1 (own n x.0 e)).1))

      held : (n m : ℕ) → Stays n → (whose g n ≡ w → ⊥) → May g n m → Stays m
      held n m x d a = (to_place reads n m a, wins.held (to n) (to m) x.1 (λ e. d (sym (merged.owns n x.0) ∙ e)) (merged.there n m a))

      module _ (f : Play) (start : Stays (f 0)) (plays : Plays g f) (by : ByPlan g w back f) where
        here : (i : ℕ) → f i < length g
        here i = from_place g (f i) (f (suc i)) (plays i)

        stays : (i : ℕ) → Stays (f i)
        stays zero = start
        stays (suc i) = next (stays i) (cases_eq (whose g (f i)) w)
          where
            next : Stays (f i) → (whose g (f i) ≡ w) ⊎ (whose g (f i) ≡ w → ⊥) → Stays (f (suc i))
            next x (inl e) = subst Stays (sym (by i e)) (may (f i) x e).1
            next x (inr d) = held (f i) (f (suc i)) x d (plays i)

        by_plan : ByPlan h w plan (λ i. to (f i))
        by_plan i e = let mine : whose g (f i) ≡ w = sym (merged.owns (f i) (here i)) ∙ e in ap to (by i mine) ∙ (carries (f i) (here i) (stays i).1 mine).1

        same_weight : (i : ℕ) → weight h (to (f i)) ≡ weight g (f i)
        same_weight i = merged.weighs (f i) (here i)

        lost : Wins g (other w) f → Wins h (other w) (λ i. to (f i))
        lost t = (
          t.0,
          record {
            from = t.1.from;
            none_heavier = λ i l. omega (arith, same_weight i, t.1.none_heavier i l);
            again = λ i. let a = t.1.again i in (a.0, a.1, same_weight a.0 ∙ a.2);
          },
          t.2,
        )

        not_lost : Wins g (other w) f → ⊥
        not_lost t = wins.not_lost (λ i. to (f i)) start.1 (λ i. merged.there (f i) (f (suc i)) (plays i)) by_plan (lost t)

      pub carries_wins : WinsFrom g w back (λ n. (n < length g) × T (won (to n)))
      carries_wins = record { may = may; held = held; not_lost = not_lost }

plan_carries : PlanCarries
plan_carries s g h to w plan won reads merged wins =
    ((carried reads merged w plan won wins, is_carried reads merged w plan won wins), λ back carries. carries_wins reads merged w plan won wins back carries)

-- the places of the smaller game that a side wins, as a test
abbrev pub given : Game → (ℕ → ℕ) → ℕ → ℕ → Bool
given h sides v p = ltb p (length h) && eqb (sides p) v

pub given_is : (h : Game) (sides : ℕ → ℕ) (v p : ℕ) → T (given h sides v p) → (p < length h) × (sides p ≡ v)
given_is h sides v p t = let u = both (ltb p (length h)) (eqb (sides p) v) t in (ltb→lt p (length h) u.0, eqb→eq (sides p) v u.1)

is_given : (h : Game) (sides : ℕ → ℕ) (v p : ℕ) → (p < length h) × (sides p ≡ v) → T (given h sides v p)
is_given h sides v p x = from_both (ltb p (length h)) (eqb (sides p) v) (lt→ltb p (length h) x.0) (true_T _ (eq-eqb (sides p) v x.1))

-- the same plan wins from the same places, told otherwise
pub wins_as : {g : Game} {w : ℕ} {plan : ℕ → ℕ} {P Q : ℕ → Type 0} → ((n : ℕ) → P n → Q n) → ((n : ℕ) → Q n → P n) → WinsFrom g w plan P → WinsFrom g w plan Q
wins_as to from wins = record {
  may = λ n x e. let t = wins.may n (from n x) e in (t.0, to _ t.1);
  held = λ n m x d a. to m (wins.held n m (from n x) d a);
  not_lost = λ f x. wins.not_lost f (from (f 0) x);
}

module _ {s : List ℕ} {g h : Game} {to : ℕ → ℕ} (reads : Reads s g) (merged : Merged g h to) (sides : ℕ → ℕ) where
  -- the places that became places that a side wins are won by it
  pub wins_back : (v : ℕ) (plan : ℕ → ℕ) (back : ℕ → ℕ) → WinsFrom h v plan (λ p. (p < length h) × (sides p ≡ v)) → CarriedBack g to v plan (given h sides v) back → WinsFrom g v back (λ n. (n < length g) × (sides (to n) ≡ v))
  wins_back v plan back wins carries =
      wins_as (λ n x. (x.0, (given_is h sides v (to n) x.1).1)) (λ n x. (x.0, is_given h sides v (to n) (merged.inside n x.0, x.1)))
      (carries_wins reads merged v plan (given h sides v) (wins_as (λ p. is_given h sides v p) (λ p. given_is h sides v p) wins) back carries)

  abbrev back_of : (v : ℕ) (plan : ℕ → ℕ) → WinsFrom h v plan (λ p. (p < length h) × (sides p ≡ v)) → ℕ → ℕ
  back_of v plan wins = carried reads merged v plan (given h sides v) (wins_as (λ p. is_given h sides v p) (λ p. given_is h sides v p) wins)

  back_wins : (v : ℕ) (plan : ℕ → ℕ) (wins : WinsFrom h v plan (λ p. (p < length h) × (sides p ≡ v))) → WinsFrom g v (back_of v plan wins) (λ n. (n < length g) × (sides (to n) ≡ v))
  back_wins v plan wins = wins_back v plan (back_of v plan wins) wins (is_carried reads merged v plan (given h sides v) (wins_as (λ p. is_given h sides v p) (λ p. given_is h sides v p) wins))

same_winners : SameWinners
same_winners s g h to sides a b w plan won n reads merged two wa wb l wins inside x =
    further.only_answer s g (λ m. sides (to m)) (back_of reads merged sides 0 a wa) (back_of reads merged sides 1 b wb) w plan won n reads (λ m k. two (to m) (merged.inside m k))
    (back_wins reads merged sides 0 a wa) (back_wins reads merged sides 1 b wb) l wins inside x

pub theorems : Theorems
theorems = record { plan_carries = plan_carries; same_winners = same_winners }
