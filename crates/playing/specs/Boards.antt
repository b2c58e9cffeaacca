-- A solved game to play on, and what a step of a play promises.
use Rattle.std.specs.Prelude.{◌≡◌, ℕ, ◌*◌, ◌<◌, ◌≤◌, List, length, slice_index}
use Rattle.endless.specs.Games.{Game, whose, May}
use Rattle.endless.specs.Graph.{moves}
use Rattle.endless.specs.Says.{WinsFrom, side, goes}

-- the places that an answer gives to a side
abbrev pub Won : Game → List ℕ → ℕ → ℕ → Type 0
Won g o w n = (n < length g) × (side o n ≡ w)

-- an answer to a game: each place is given to one side, and the plan wins for either side from the places given to it
pub record Answered (g : Game) (o : List ℕ) : Type 0 where
  pub room : 2 * length g ≤ length o
  pub fair : (n : ℕ) → n < length g → side o n < 2
  pub even : WinsFrom g 0 (goes o) (Won g o 0)
  pub odd : WinsFrom g 1 (goes o) (Won g o 1)

-- side w goes by the plan at its own places that the answer gives to it
abbrev pub ByPlanHere : Game → List ℕ → ℕ → ℕ → Type 0
ByPlanHere g o w n = (whose g n ≡ w) × (side o n ≡ w)

-- a step from n to m of a play in which side w goes by the plan: a move of the game; the plan's where that side is to move and the answer gives the place to it, and else the move with the index that is chosen; from a place given to the side to one given to it
pub record Stepped (g : Game) (o : List ℕ) (w n choice m : ℕ) : Type 0 where
  pub may : May g n m
  pub planned : ByPlanHere g o w n → m ≡ goes o n
  pub chosen : (ByPlanHere g o w n → ⊥) → m ≡ slice_index (moves g n) choice
  pub stays : side o n ≡ w → side o m ≡ w
  pub within : m < length g
