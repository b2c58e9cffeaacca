-- One turn of the recursion: what is won in a part of a subgame, and what is left when it is peeled off.
use Rattle.std.proofs.Common.{◌≡◌, ℕ, ◌%◌, ◌<◌, ◌⊎◌, List, length, sym, refl, ◌∙◌, subst, inl, inr, arith}
use Rattle.endless.specs.Games.{Game, Reads, whose, weight, May}
use Rattle.endless.specs.Says.{side, goes}
use Rattle.endless.specs.Sets.{Set, In, Out, Within, minus, having}
use Rattle.endless.specs.Subgames.{Subgame, Closed, Holds, Solves}
use Rattle.endless.specs.Pulling.{Unchanged}
use Rattle.endless.specs.Levels.{HeaviestIn, Brought, Peeled, Peels, Reduces}
use Rattle.endless.proofs.Sets.{in_or_out, minus_in, minus_within, minus_out, having_in, having_within, having_is}
use Rattle.endless.proofs.Steps.{else_is, rest_subgame, subgame_as, holds_as, holds_plan, won_outside, closed_won, attract_won, all_won, peel}
use Rattle.endless.proofs.Within.{first_of}
use Rattle.endless.proofs.Working.{unchanged_goes, same_side}

-- an answer to the same places, told otherwise
pub solves_same : {g : Game} {sides plan : ℕ → ℕ} (U V : Set) → Within U V → Within V U → Solves g U sides plan → Solves g V sides plan
solves_same {g} {sides} {plan} U V to fro s = record {
  one_of_two = λ n x. s.one_of_two n (fro n x);
  won = λ w l. holds_as U V (having U sides w) (having V sides w) to fro
      (λ n x. having_in V sides w n (to n (having_within U sides w n x)) (having_is U sides w n x))
      (λ n x. having_in U sides w n (fro n (having_within V sides w n x)) (having_is V sides w n x)) (s.won w l);
}

-- a set without what it has outside a part is the part
pub minus_twice : (U B : Set) → Within B U → (n : ℕ) → In (minus U (minus U B)) n → In B n
minus_twice U B sub n x = go (in_or_out B n)
  where
    go : In B n ⊎ Out B n → In B n
    go (inl b) = b
    go (inr o) = absurd (minus_out U (minus U B) n x (minus_in U B n (minus_within U (minus U B) n x) o))

pub twice_minus : (U B : Set) → Within B U → (n : ℕ) → In B n → In (minus U (minus U B)) n
twice_minus U B sub n b = minus_in U (minus U B) n (sub n b) (λ x. minus_out U B n x b)

-- in R, after the attractor for p of the heaviest places and an answer to the rest B
module _ {s : List ℕ} {g : Game} (r : Reads s g) (R B : Set) (p q h : ℕ) (o₁ o₂ : List ℕ) (lp : p < 2) (lq : q < 2) (differ : q ≡ p → ⊥) (parity : h % 2 ≡ p) (heavy : HeaviestIn g R h) (b : Brought g R p h B o₁) (long : length o₂ ≡ length o₁) (frame : (n : ℕ) → Out B n → Unchanged o₁ o₂ n) (below : Solves g B (side o₂) (goes o₂)) where
  rest_solved : Solves g (minus R (minus R B)) (side o₂) (goes o₂)
  rest_solved = solves_same B (minus R (minus R B)) (twice_minus R B b.within) (minus_twice R B b.within) below

  taken : (n : ℕ) → In (minus R B) n → side o₂ n ≡ p
  taken n x = same_side o₁ o₂ n long (frame n (minus_out R B n x)) ∙ b.labelled n (minus_within R B n x) (minus_out R B n x)

  -- what q has won of the rest it has won of R
  pub lost_won : Holds g R (having R (side o₂) q) q (goes o₂)
  lost_won = holds_as R R (having (minus R (minus R B)) (side o₂) q) (having R (side o₂) q) (λ n x. x) (λ n x. x)
      (λ n x. having_in R (side o₂) q n (minus_within R (minus R B) n (having_within (minus R (minus R B)) (side o₂) q n x)) (having_is (minus R (minus R B)) (side o₂) q n x))
      (λ n x. having_in (minus R (minus R B)) (side o₂) q n (minus_in R (minus R B) n (having_within R (side o₂) q n x) (λ y. differ (sym (having_is R (side o₂) q n x) ∙ taken n y))) (having_is R (side o₂) q n x))
      (won_outside (else_is r q p lq lp differ) b.attractor (rest_solved.won q lq))

  module _ (none : (n : ℕ) → In R n → side o₂ n ≡ q → ⊥) where
    -- where q has won nothing, all is given to p
    pub all_given : (n : ℕ) → In R n → side o₂ n ≡ p
    all_given n x = go (in_or_out B n)
      where
        two : (v : ℕ) → v < 2 → (v ≡ q → ⊥) → v ≡ p
        two v l d = omega arith

        go : In B n ⊎ Out B n → side o₂ n ≡ p
        go (inl y) = two (side o₂ n) (below.one_of_two n y) (none n x)
        go (inr o) = taken n (minus_in R B n x o)

    -- and p has won all
    pub all_held : Holds g R R p (goes o₂)
    all_held = all_won {D = having R (weight g) h} {A = minus R B} {Y = having (minus R (minus R B)) (side o₂) p} {σ = goes o₂} {τ = goes o₁} (goes o₂) h parity heavy.most (λ n x. having_is R (weight g) h n x) moves
        (λ n x e. same n (minus_out R B n (minus_within (minus R B) (having R (weight g) h) n x))) (λ n x e. refl) b.attractor
        (λ n x. having_in (minus R (minus R B)) (side o₂) p n x (all_given n (minus_within R (minus R B) n x))) (rest_solved.won p lp)
      where
        same : (n : ℕ) → Out B n → goes o₂ n ≡ goes o₁ n
        same n o = unchanged_goes o₁ o₂ n (frame n o)

        moves : (n : ℕ) → In (having R (weight g) h) n → whose g n ≡ p → May g n (goes o₂ n) × In R (goes o₂ n)
        moves n x e = subst (λ (k : ℕ). May g n k × In R k) (sym (same n (minus_out R B n (b.attractor.targets n x)))) (b.moves n x)

-- a set that w has won is peeled off U with its attractor
pub peeled_reduces : {s : List ℕ} {g : Game} → Reads s g → (U X L : Set) (w : ℕ) (o₂ o₃ : List ℕ) → w < 2 → Subgame g U → length o₃ ≡ length o₂ → Holds g U X w (goes o₂) → ((n : ℕ) → In X n → side o₂ n ≡ w) → Peeled g U w X L o₂ o₃ → Reduces g U L o₃
peeled_reduces {s} {g} r U X L w o₂ o₃ lw sub long held given k = record {
  rest = subgame_as (minus U (minus U L)) L (minus_twice U L k.within) (twice_minus U L k.within) (rest_subgame sub k.attractor);
  solves = λ o len frame solved.
      peel r lw k.attractor (holds_plan (goes o) (λ n x e. unchanged_goes o₃ o n (frame n (minus_out U L n x))) won)
      (λ n x. same_side o₃ o n len (frame n (minus_out U L n x)) ∙ told n x (in_or_out X n))
      (solves_same L (minus U (minus U L)) (twice_minus U L k.within) (minus_twice U L k.within) solved);
}
  where
    won : Holds g U (minus U L) w (goes o₃)
    won = attract_won (goes o₃) (λ n x e. unchanged_goes o₂ o₃ n (k.kept n x)) (λ n x e. refl) held k.attractor

    told : (n : ℕ) → In (minus U L) n → In X n ⊎ Out X n → side o₃ n ≡ w
    told n x (inl y) = same_side o₂ o₃ n long (k.kept n y) ∙ given n y
    told n x (inr y) = k.labelled n (minus_within U L n x) y (minus_out U L n x)

-- a turn: the part R is closed in U
pub turn_reduces : {s : List ℕ} {g : Game} → Reads s g → (U R B L : Set) (p q h : ℕ) (o₁ o₂ o₃ : List ℕ) → p < 2 → q < 2 → (q ≡ p → ⊥) → h % 2 ≡ p → Subgame g U → Closed g U R → HeaviestIn g R h → Brought g R p h B o₁ →
    length o₂ ≡ length o₁ → ((n : ℕ) → Out B n → Unchanged o₁ o₂ n) → Solves g B (side o₂) (goes o₂) → length o₃ ≡ length o₂ → Peels g U R p q L o₂ o₃ → Reduces g U L o₃
turn_reduces r U R B L p q h o₁ o₂ o₃ lp lq differ parity sub closed heavy b long frame below long' (inl t) =
    peeled_reduces r U R L p o₂ o₃ lp sub long' (closed_won closed (all_held r R B p q h o₁ o₂ lp lq differ parity heavy b long frame below t.0)) (all_given r R B p q h o₁ o₂ lp lq differ parity heavy b long frame below t.0) t.1
turn_reduces r U R B L p q h o₁ o₂ o₃ lp lq differ parity sub closed heavy b long frame below long' (inr k) =
    peeled_reduces r U (having R (side o₂) q) L q o₂ o₃ lq sub long' (closed_won closed (lost_won r R B p q h o₁ o₂ lp lq differ parity heavy b long frame below)) (λ n x. having_is R (side o₂) q n x) k

-- nothing taken, one turn after another, nothing left
pub reduces_none : (g : Game) (U : Set) (out : List ℕ) → Subgame g U → Reduces g U U out
reduces_none g U out sub = record { rest = sub; solves = λ o len frame solved. solved }

pub reduces_then : (g : Game) (U L M : Set) (o₁ o₂ : List ℕ) → Within M L → length o₂ ≡ length o₁ → ((n : ℕ) → Out L n → Unchanged o₁ o₂ n) → Reduces g U L o₁ → Reduces g L M o₂ → Reduces g U M o₂
reduces_then g U L M o₁ o₂ less long frame a b = record {
  rest = b.rest;
  solves = λ o len same solved.
      a.solves o (len ∙ long) (λ n x. let u = frame n x in let v = same n (λ y. x (less n y)) in (v.0 ∙ u.0, v.1 ∙ u.1)) (b.solves o len same solved);
}

pub reduces_all : (g : Game) (U L : Set) (out : List ℕ) → ((n : ℕ) → Out L n) → Reduces g U L out → Solves g U (side out) (goes out)
reduces_all g U L out none k = k.solves out refl (λ n x. (refl, refl)) (record {
  one_of_two = λ n x. absurd (none n x);
  won = λ w l. record {
    within = λ n x. absurd (none n (having_within L (side out) w n x));
    may = λ n x. absurd (none n (having_within L (side out) w n x));
    held = λ n m x. absurd (none n (having_within L (side out) w n x));
    rounds = λ n ns x c. absurd (none n (having_within L (side out) w n (first_of g w (goes out) (In (having L (side out) w)) n ns n c x)));
  };
})

-- all of a subgame is its own attractor
pub peeled_whole : (g : Game) (U R : Set) (w : ℕ) (L : Set) (out : List ℕ) → Within R U → Within U R → ((n : ℕ) → Out L n) → Peeled g U w R L out out
peeled_whole g U R w L out to fro none = record {
  within = λ n x. absurd (none n x);
  rank = λ n. 0;
  attractor = record {
    within = λ n x. minus_within U L n x;
    targets = λ n x. minus_in U L n (to n x) (none n);
    own = λ n x o. absurd (o (fro n (minus_within U L n x)));
    forced = λ n m x o. absurd (o (fro n (minus_within U L n x)));
    no_way_in = λ n m u o. absurd (o (minus_in U L n u (none n)));
    way_past = λ n u o. absurd (o (minus_in U L n u (none n)));
  };
  labelled = λ n u o. absurd (o (fro n u));
  kept = λ n x. (refl, refl);
}
