-- Parts of a game, and what a side holds in them by a plan.
use Rattle.std.specs.Prelude.{◌≡◌, ℕ, ◌%◌, ◌<◌, List, length, ◌≢◌}
use Rattle.endless.specs.Games.{Game, whose, May}
use Rattle.endless.specs.Says.{Round, heaviest}
use Rattle.endless.specs.Sets.{Set, In, Within, having, Each}

-- a subgame: places of the game, each with a move into the set
pub record Subgame (g : Game) (U : Set) : Type 0 where
  pub places : (n : ℕ) → In U n → n < length g
  pub goes_on : (n : ℕ) → In U n → (m : ℕ) × May g n m × In U m

-- a closed part of a subgame: no move within the subgame leaves it
pub record Closed (g : Game) (U R : Set) : Type 0 where
  pub within : Within R U
  pub stays : (n m : ℕ) → In R n → May g n m → In U m → In R m

-- a dominion of a side in a subgame: its plan stays in it, the other's moves within the subgame do too, and every round there by the plan has a heaviest weight of its kind
pub record Holds (g : Game) (U X : Set) (w : ℕ) (plan : ℕ → ℕ) : Type 0 where
  pub within : Within X U
  pub may : (n : ℕ) → In X n → whose g n ≡ w → May g n (plan n) × In X (plan n)
  pub held : (n m : ℕ) → In X n → (whose g n ≢ w) → May g n m → In U m → In X m
  pub rounds : (n : ℕ) (ns : List ℕ) → Each (In X) ns → Round g w plan n ns n → heaviest g ns % 2 ≡ w

-- two plans go the same way at a side's places of a set
abbrev pub Same : Game → ℕ → Set → (ℕ → ℕ) → (ℕ → ℕ) → Type 0
Same g w X a b = (n : ℕ) → In X n → whose g n ≡ w → a n ≡ b n

-- of two sides: a place that is not the one's is the other's
abbrev pub Else : Game → ℕ → ℕ → Type 0
Else g p q = (n : ℕ) → (whose g n ≢ p) → whose g n ≡ q

-- an answer to a subgame: who wins each place, and one plan for both sides, which each goes by where it wins
pub record Solves (g : Game) (U : Set) (sides plan : ℕ → ℕ) : Type 0 where
  pub one_of_two : (n : ℕ) → In U n → sides n < 2
  pub won : (w : ℕ) → w < 2 → Holds g U (having U sides w) w plan
