-- Attractors: from where in a subgame a side can bring every play to a target.
use Rattle.std.specs.Prelude.{◌≡◌, ℕ, ◌<◌, ◌≤◌, List, ◌≢◌}
use Rattle.endless.specs.Games.{Game, Reads, whose, May, Play, Plays, ByPlan, other}
use Rattle.endless.specs.Sets.{Set, In, Out, Within}

-- A is the attractor for w of the targets D in U: by the plan, and by any move of the other's within U, the rank falls until a target is come to; from outside w has no move in, and the other has one that stays out
pub record Attractor (g : Game) (U : Set) (w : ℕ) (D A : Set) (plan rank : ℕ → ℕ) : Type 0 where
  pub within : Within A U
  pub targets : Within D A
  pub own : (n : ℕ) → In A n → Out D n → whose g n ≡ w → May g n (plan n) × In A (plan n) × (rank (plan n) < rank n)
  pub forced : (n m : ℕ) → In A n → Out D n → (whose g n ≢ w) → May g n m → In U m → In A m × (rank m < rank n)
  pub no_way_in : (n m : ℕ) → In U n → Out A n → whose g n ≡ w → May g n m → In A m → ⊥
  pub way_past : (n : ℕ) → In U n → Out A n → (whose g n ≢ w) → (m : ℕ) × May g n m × In U m × Out A m

-- an attractor on its way: all ranks are below a bound, and there may be more to add
pub record Attracting (g : Game) (U : Set) (w : ℕ) (D A : Set) (plan rank : ℕ → ℕ) (bound : ℕ) : Type 0 where
  pub within : Within A U
  pub targets : Within D A
  pub own : (n : ℕ) → In A n → Out D n → whose g n ≡ w → May g n (plan n) × In A (plan n) × (rank (plan n) < rank n)
  pub forced : (n m : ℕ) → In A n → Out D n → (whose g n ≢ w) → May g n m → In U m → In A m × (rank m < rank n)
  pub ranks : (n : ℕ) → In A n → rank n < bound

-- a set is closed under bringing about for w in U: a place of w's with a move into it is in it, and a place of the other's all whose moves within U are into it
pub record ClosedUnder (g : Game) (U : Set) (w : ℕ) (B : Set) : Type 0 where
  pub own : (n m : ℕ) → In U n → whose g n ≡ w → May g n m → In B m → In B n
  pub forced : (n : ℕ) → In U n → (whose g n ≢ w) → ((m : ℕ) → May g n m → In U m → In B m) → In B n

-- no such set that holds the targets leaves out a place of A
abbrev pub Least : Game → Set → ℕ → Set → Set → Type 0
Least g U w D A = (B : Set) → Within D B → ClosedUnder g U w B → Within A B

-- in plays: a play that stays in U and goes by the plan comes from A to a target, within as many moves as the rank says
abbrev pub Brings : Game → Set → ℕ → Set → Set → (ℕ → ℕ) → (ℕ → ℕ) → Type 0
Brings g U w D A plan rank = (f : Play) → ((i : ℕ) → In U (f i)) → Plays g f → ByPlan g w plan f → In A (f 0) → (i : ℕ) × (i ≤ rank (f 0)) × In D (f i)

-- and the other side has a plan that may be gone by outside A and by which no play that stays in U ever comes to A
abbrev pub KeepsOut : Game → Set → ℕ → Set → Type 0
KeepsOut g U w A = (reply : ℕ → ℕ) × ((n : ℕ) → In U n → Out A n → whose g n ≡ other w → May g n (reply n) × In U (reply n)) ×
    ((f : Play) → ((i : ℕ) → In U (f i)) → Plays g f → ByPlan g (other w) reply f → Out A (f 0) → (i : ℕ) → Out A (f i))

-- so every attractor is the least of its kind, and brings and keeps out
pub record AttractorLaws : Type 0 where
  pub least : (g : Game) (U : Set) (w : ℕ) (D A : Set) (plan rank : ℕ → ℕ) → Attractor g U w D A plan rank → Least g U w D A
  pub brings : (g : Game) (U : Set) (w : ℕ) (D A : Set) (plan rank : ℕ → ℕ) → Attractor g U w D A plan rank → Brings g U w D A plan rank
  pub keeps_out : (s : List ℕ) (g : Game) (U : Set) (w : ℕ) (D A : Set) (plan rank : ℕ → ℕ) → Reads s g → w < 2 → Attractor g U w D A plan rank → KeepsOut g U w A
