-- The game that is led by an answer: where the side that wins a place is to move there, it has its plan's move alone.
use Rattle.std.specs.Prelude.{ℕ, zero, suc, ◌<◌, cond, List, length, ◌==◌}
use Rattle.endless.specs.Games.{Game, whose}
use Rattle.endless.specs.Says.{side, goes}
use Rattle.endless.specs.Sets.{Set, In, Out}
use Rattle.endless.specs.Subgames.{Closed}
use Rattle.moves.specs.Alone.{alone}

-- of the first k places those that a test keeps have a plan's move alone
abbrev pub led_by : Game → Set → (ℕ → ℕ) → ℕ → Game
led_by g keeps plan zero = g
led_by g keeps plan (suc j) = cond (keeps j) (alone (led_by g keeps plan j) j (plan j)) (led_by g keeps plan j)

-- the winner of a place is to move there
abbrev pub leads : Game → List ℕ → Set
leads g a n = whose g n == side a n

abbrev pub led : Game → List ℕ → ℕ → Game
led g a k = led_by g (leads g a) (goes a) k

-- some part that no move leaves has the one place and not the other: from the one no play comes to the other
pub record Avoids (g : Game) (from to : ℕ) : Type 0 where
  pub whole : Set
  pub part : Set
  pub all : (n : ℕ) → n < length g → In whole n
  pub closed : Closed g whole part
  pub here : In part from
  pub not_there : Out part to
