-- What a board shows: a game with an answer.
use Rattle.std.specs.Prelude.{ℕ, List}
use Rattle.endless.specs.Games.{Game}

-- a game and an answer to it
pub record Solution : Type 0 where
  pub game : Game
  pub answer : List ℕ
