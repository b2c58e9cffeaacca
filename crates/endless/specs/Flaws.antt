-- What can be wrong with a side's plan for a set of places.
use Rattle.std.specs.Prelude.{◌≡◌, ℕ, ◌%◌, ◌<◌, ◌≤◌, List, ◌≢◌, slice_index}
use Rattle.endless.specs.Games.{Game, whose, weight, May, other}
use Rattle.endless.specs.Says.{Round, heaviest}
use Rattle.endless.specs.Sets.{Set, In, Out, Each}
use Rattle.endless.specs.declared.flaw.Flaw.{Flaw}
use Rattle.endless.specs.declared.flaw.Flaw.TheVariants.{NoMove, Leaves, Escape, LosingRound}

-- a step of a play by a plan: a move, and the plan's where it is the side's own
abbrev pub Step : Game → ℕ → (ℕ → ℕ) → ℕ → ℕ → Type 0
Step g w plan n m = May g n m × (whose g n ≡ w → m ≡ plan n)

-- places of a set, none heavier than k, that follow one another by steps from n to m
abbrev pub Walk : Game → Set → ℕ → (ℕ → ℕ) → ℕ → ℕ → ℕ → Type 0
Walk g X w plan k n m = (ns : List ℕ) × Round g w plan n ns m × Each (λ j. In X j × (weight g j ≤ k)) ns

-- no place of weight k in a set comes back to itself by a plan, past none that is heavier
abbrev pub NoRoundOf : Game → Set → ℕ → (ℕ → ℕ) → ℕ → Type 0
NoRoundOf g X w plan k = (n : ℕ) → In X n → weight g n ≡ k → Walk g X w plan k n n → ⊥

-- a place that does
abbrev pub RoundOf : Game → Set → ℕ → (ℕ → ℕ) → ℕ → ℕ → Type 0
RoundOf g X w plan k n = In X n × (weight g n ≡ k) × Walk g X w plan k n n

-- from n to m the rank does not rise, and it falls if n weighs k
abbrev pub Follows : Game → ℕ → List ℕ → ℕ → ℕ → Type 0
Follows g k ranks n m = (slice_index ranks m ≤ slice_index ranks n) × (weight g n ≡ k → slice_index ranks m < slice_index ranks n)

-- and so along each step from n within a set to a place not heavier than k
abbrev pub FallsAt : Game → Set → ℕ → (ℕ → ℕ) → ℕ → List ℕ → ℕ → Type 0
FallsAt g X w plan k ranks n = (m : ℕ) → Step g w plan n m → In X m → weight g m ≤ k → Follows g k ranks n m

-- a plan stays in a set at n: the side's own move there, and each of the other's within the subgame
pub record StaysAt (g : Game) (U X : Set) (w : ℕ) (plan : ℕ → ℕ) (n : ℕ) : Type 0 where
  pub may : whose g n ≡ w → May g n (plan n) × In X (plan n)
  pub held : (m : ℕ) → (whose g n ≢ w) → May g n m → In U m → In X m

-- every round in a set by a plan has a heaviest weight of the side's kind
abbrev pub RoundsWon : Game → Set → ℕ → (ℕ → ℕ) → Type 0
RoundsWon g X w plan = (n : ℕ) (ns : List ℕ) → Each (In X) ns → Round g w plan n ns n → heaviest g ns % 2 ≡ w

-- through n there is a round in a set by a plan with k as the heaviest, which is of the other side's kind
pub record LosesRound (g : Game) (X : Set) (w : ℕ) (plan : ℕ → ℕ) (n k : ℕ) : Type 0 where
  pub places : List ℕ
  pub inside : Each (In X) places
  pub round : Round g w plan n places n
  pub weighs : heaviest g places ≡ k
  pub theirs : k % 2 ≡ other w

-- what is wrong, seen at one place
abbrev pub Spotted : Game → Set → Set → ℕ → (ℕ → ℕ) → Flaw → Type 0
Spotted g U X w plan (NoMove n) = In X n.0 × (whose g n.0 ≡ w) × (May g n.0 (plan n.0) → ⊥)
Spotted g U X w plan (Leaves n) = In X n.0 × (whose g n.0 ≡ w) × May g n.0 (plan n.0) × Out X (plan n.0)
Spotted g U X w plan (Escape n m) = In X n.0 × (whose g n.0 ≢ w) × May g n.0 m.0 × In U m.0 × Out X m.0
Spotted g U X w plan (LosingRound n k) = ⊥

-- what is wrong with a plan of w's for its places X of a subgame U
abbrev pub FlawIs : Game → Set → Set → ℕ → (ℕ → ℕ) → Flaw → Type 0
FlawIs g U X w plan (NoMove n) = Spotted g U X w plan (NoMove n)
FlawIs g U X w plan (Leaves n) = Spotted g U X w plan (Leaves n)
FlawIs g U X w plan (Escape n m) = Spotted g U X w plan (Escape n m)
FlawIs g U X w plan (LosingRound n k) = In X n.0 × LosesRound g X w plan n.0 k
