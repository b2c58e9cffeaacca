-- How many places of a game have each weight.
use Rattle.std.specs.Prelude.{ℕ, Bool, length, nat_eq, nat_lt}
use Rattle.endless.specs.Games.{Game, weight}
use Rattle.endless.specs.Bits.{count}

-- how many places have the weight k
abbrev pub weighing : Game → ℕ → ℕ
weighing g k = count (λ n. nat_eq (weight g n) k) (length g)

-- whether a place has it
abbrev pub occurs : Game → ℕ → Bool
occurs g k = nat_lt 0 (weighing g k)

-- how many different weights there are
abbrev pub kinds : Game → ℕ
kinds g = count (occurs g) 256
