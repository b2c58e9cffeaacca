-- Each place is won by one side, with one plan for all its places: by recursion on how many places are left.
use Rattle.std.proofs.Common.{◌≡◌, ℕ, zero, suc, ◌%◌, ◌<◌, ◌≤◌, ◌⊎◌, List, length, sym, refl, ◌∙◌, subst, inl, inr, arith}
use Rattle.std.proofs.lemmas.Bool.{cases_eq, cases_lt}
use Rattle.endless.specs.Games.{Game, Reads, whose, weight, May, other}
use Rattle.endless.specs.Says.{EachIsWon}
use Rattle.endless.specs.Sets.{Set, In, Out, Within, minus, empty, whole, having, size}
use Rattle.endless.specs.Subgames.{Subgame, Holds, Same, Solves}
use Rattle.endless.specs.Attractors.{Attractor}
use Rattle.endless.proofs.Places.{is_other, not_other, other_below}
use Rattle.endless.proofs.Pigeonhole.{below_suc, search_below}
use Rattle.endless.proofs.Sets.{in_or_out, merge, merge_in, merge_out, minus_within, minus_out, empty_out, having_in, having_within, having_is, size_less, size_some, size_most}
use Rattle.endless.proofs.Steps.{else_is, whole_subgame, rest_subgame, holds_as, holds_empty, won_outside, attract_won, all_won, solves_as, solves_all, peel, solves_wins}
use Rattle.endless.proofs.Attracting.{Attracted, attract}

-- a heaviest place of a set among those below a bound, or none is there
abbrev Top : Game → Set → ℕ → Type 0
Top g U b = (n : ℕ) × (n < b) × In U n × ((m : ℕ) → m < b → In U m → weight g m ≤ weight g n)

top : (g : Game) (U : Set) (b : ℕ) → Top g U b ⊎ ((m : ℕ) → m < b → Out U m)
top g U zero = inr (λ m l. absurd (omega arith))
top g U (suc b) = go (in_or_out U b) (top g U b)
  where
    more : In U b → (t : Top g U b) → (weight g t.0 < weight g b) ⊎ (weight g b ≤ weight g t.0) → Top g U (suc b)
    more x t (inl l) = (b, omega arith, x, below_suc (λ m. In U m → weight g m ≤ weight g b) b (λ m h y. omega (arith, t.3 m h y, l)) (λ y. omega arith))
    more x t (inr l) = (t.0, omega (arith, t.1), t.2, below_suc (λ m. In U m → weight g m ≤ weight g t.0) b t.3 (λ y. l))

    go : In U b ⊎ Out U b → Top g U b ⊎ ((m : ℕ) → m < b → Out U m) → Top g U (suc b) ⊎ ((m : ℕ) → m < suc b → Out U m)
    go (inl x) (inl t) = inl (more x t (cases_lt (weight g t.0) (weight g b)))
    go (inl x) (inr o) = inl (b, omega arith, x, below_suc (λ m. In U m → weight g m ≤ weight g b) b (λ m h y. absurd (o m h y)) (λ y. omega arith))
    go (inr x) (inl t) = inl (t.0, omega (arith, t.1), t.2, below_suc (λ m. In U m → weight g m ≤ weight g t.0) b t.3 (λ y. absurd (x y)))
    go (inr x) (inr o) = inr (below_suc (Out U) b o x)

-- an answer to a subgame, with who wins and the plan
abbrev pub Answer : Game → Set → Type 0
Answer g U = (sides : ℕ → ℕ) × (plan : ℕ → ℕ) × Solves g U sides plan

nothing : (g : Game) (U : Set) → ((n : ℕ) → Out U n) → Answer g U
nothing g U o = ((λ n. 0), (λ n. n), solves_all {w = 0} (λ n. 0) (omega arith) (λ n x. absurd (o n x)) (holds_as U U empty U (λ n x. x) (λ n x. x) (λ n x. absurd (empty_out n x)) (λ n x. absurd (o n x)) holds_empty))

-- one turn, with whatever answers smaller subgames
module _ (s : List ℕ) (g : Game) (r : Reads s g) (U : Set) (sub : Subgame g U) (smaller : (V : Set) → Subgame g V → size V (length g) < size U (length g) → Answer g V) where
  -- a move within the subgame
  way : ℕ → ℕ
  way n = go (in_or_out U n)
    where
      go : In U n ⊎ Out U n → ℕ
      go (inl x) = (sub.goes_on n x).0
      go (inr x) = 0

  way_in : (n : ℕ) → In U n → May g n (way n) × In U (way n)
  unfolding way
  way_in n x = found (in_or_out U n)
    where
      found : (t : In U n ⊎ Out U n) → May g n (elim t [ inl y ↦ (sub.goes_on n y).0 | inr y ↦ 0 ]) × In U (elim t [ inl y ↦ (sub.goes_on n y).0 | inr y ↦ 0 ])
      found (inl y) = let t = sub.goes_on n y in (t.1, t.2)
      found (inr y) = absurd (y x)

  less : (A : Set) (n : ℕ) → In U n → In A n → size (minus U A) (length g) < size U (length g)
  less A n u x = size_less (minus U A) U (length g) n (minus_within U A) (sub.places n u) u (λ y. minus_out U A n y x)

  -- a side holds some places: their attractor is taken away, and what is left is answered
  take_away : (w : ℕ) → w < 2 → (X : Set) (σ : ℕ → ℕ) (n : ℕ) → In X n → Holds g U X w σ → Answer g U
  take_away w l X σ n x h = (
    sides,
    plan,
    peel r l att won (λ m y. merge_in B (λ m. w) rest.0 m y) (solves_as sides plan
        (λ m y. merge_out B (λ m. w) rest.0 m (minus_out U B m y)) (λ m y. merge_out B (merge X σ t.1) rest.1 m (minus_out U B m y)) rest.2),
  )
    where
      t : Attracted g U w X
      t = attract g U w X sub h.within

      B : Set
      B = t.0

      att : Attractor g U w X B t.1 t.2
      att = t.3

      rest : Answer g (minus U B)
      rest = smaller (minus U B) (rest_subgame sub att) (less B n (h.within n x) (att.targets n x))

      sides : ℕ → ℕ
      sides = merge B (λ m. w) rest.0

      plan : ℕ → ℕ
      plan = merge B (merge X σ t.1) rest.1

      won : Holds g U B w plan
      won = attract_won plan
          (λ m y e. merge_in B (merge X σ t.1) rest.1 m (att.targets m y) ∙ merge_in X σ t.1 m y)
          (λ m y e. merge_in B (merge X σ t.1) rest.1 m (minus_within B X m y) ∙ merge_out X σ t.1 m (minus_out B X m y)) h att

  -- n is a heaviest place
  turn : (n : ℕ) → In U n → ((m : ℕ) → In U m → weight g m ≤ weight g n) → Answer g U
  turn n u most = go (search_below {P = In theirs} {Q = Out theirs} (in_or_out theirs) (length g))
    where
      h : ℕ
      h = weight g n

      p : ℕ
      p = h % 2

      l : p < 2
      l = omega arith

      D : Set
      D = having U (weight g) h

      t : Attracted g U p D
      t = attract g U p D sub (having_within U (weight g) h)

      A : Set
      A = t.0

      att : Attractor g U p D A t.1 t.2
      att = t.3

      rest : Answer g (minus U A)
      rest = smaller (minus U A) (rest_subgame sub att) (less A n u (att.targets n (having_in U (weight g) h n u refl)))

      mine : Set
      mine = having (minus U A) rest.0 p

      theirs : Set
      theirs = having (minus U A) rest.0 (other p)

      -- the other side holds nothing of the rest
      all_mine : ((m : ℕ) → m < length g → Out theirs m) → Within (minus U A) mine
      all_mine o m x = which (cases_eq (rest.0 m) p)
        where
          which : (rest.0 m ≡ p) ⊎ (rest.0 m ≡ p → ⊥) → In mine m
          which (inl e) = having_in (minus U A) rest.0 p m x e
          which (inr d) = absurd (o m (sub.places m (minus_within U A m x)) (having_in (minus U A) rest.0 (other p) m x (is_other p (rest.0 m) l (rest.2.one_of_two m x) d)))

      lower : ℕ → ℕ
      lower = merge A t.1 rest.1

      plan : ℕ → ℕ
      plan = merge D way lower

      on_heaviest : (m : ℕ) → In D m → whose g m ≡ p → May g m (plan m) × In U (plan m)
      on_heaviest m d e = subst (λ (k : ℕ). May g m k × In U k) (sym (merge_in D way lower m d)) (way_in m (having_within U (weight g) h m d))

      on_attracted : Same g p (minus A D) plan t.1
      on_attracted m y e = merge_out D way lower m (minus_out A D m y) ∙ merge_in A t.1 rest.1 m (minus_within A D m y)

      on_rest : Same g p mine plan rest.1
      on_rest m y e =
          let o = minus_out U A m (having_within (minus U A) rest.0 p m y) in
          merge_out D way lower m (λ d. o (att.targets m d)) ∙ merge_out A t.1 rest.1 m o

      go : ((m : ℕ) × (m < length g) × In theirs m) ⊎ ((m : ℕ) → m < length g → Out theirs m) → Answer g U
      go (inl m) = take_away (other p) (other_below p) theirs rest.1 m.0 m.2 (won_outside (else_is r (other p) p (other_below p) l (λ e. not_other p p l refl (sym e))) att (rest.2.won (other p) (other_below p)))
      go (inr o) = ((λ m. p), plan, solves_all (λ m. p) l (λ m x. refl) (all_won plan h refl most (having_is U (weight g) h) on_heaviest on_attracted on_rest att (all_mine o) (rest.2.won p l)))

-- every subgame has an answer
pub answer : (s : List ℕ) (g : Game) → Reads s g → (k : ℕ) (U : Set) → Subgame g U → size U (length g) ≤ k → Answer g U
answer s g r zero U sub l = nothing g U (λ n x. omega (arith, l, size_some U (length g) n (sub.places n x) x))
answer s g r (suc k) U sub l = go (λ V below less. answer s g r k V below (omega arith)) (top g U (length g))
  where
    go : ((V : Set) → Subgame g V → size V (length g) < size U (length g) → Answer g V) → Top g U (length g) ⊎ ((m : ℕ) → m < length g → Out U m) → Answer g U
    go ih (inl t) = turn s g r U sub ih t.0 t.2 (λ m x. t.3 m (sub.places m x) x)
    go ih (inr o) = nothing g U (λ m x. o m (sub.places m x) x)

pub each_is_won : EachIsWon
each_is_won s g r = (sides, a.1, a.1, below, solves_wins r whole_answer 0 (omega arith), solves_wins r whole_answer 1 (omega arith))
  where
    a : Answer g (whole g)
    a = answer s g r (length g) (whole g) (whole_subgame r) (size_most (whole g) (length g))

    sides : ℕ → ℕ
    sides = merge (whole g) a.0 (λ m. 0)

    in_whole : (n : ℕ) → In (whole g) n → sides n ≡ a.0 n
    in_whole n x = merge_in (whole g) a.0 (λ m. 0) n x

    whole_answer : Solves g (whole g) sides a.1
    whole_answer = solves_as sides a.1 in_whole (λ n x. refl) a.2

    below : (n : ℕ) → sides n < 2
    below n = go (in_or_out (whole g) n)
      where
        go : In (whole g) n ⊎ Out (whole g) n → sides n < 2
        go (inl x) = omega (arith, in_whole n x, a.2.one_of_two n x)
        go (inr x) = omega (arith, merge_out (whole g) a.0 (λ m. 0) n x)
