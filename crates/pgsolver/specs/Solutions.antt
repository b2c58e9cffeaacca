-- A solution in PGSolver's form, which Oink writes too.
use Rattle.std.specs.Prelude.{ℕ, zero, suc, cond, List, [], ◌++◌, length, Some, None, Option, ◌==◌, codes, decimal, slice_get, slice_index}
use Rattle.endless.specs.Games.{Game, whose}
use Rattle.endless.specs.Says.{side, goes}
use Rattle.pgsolver.specs.Ids.{highest}

-- where the winner of place n moves, by the id, if it is the winner that moves there
abbrev pub winners_move : List ℕ → Game → List ℕ → ℕ → Option ℕ
winners_move ids g o n = cond (whose g n == side o n) (slice_get ids (goes o n)) None

-- MOVE, with a blank before it
abbrev pub move_text : Option ℕ → List ℕ
move_text None = []
move_text (Some id) = codes " " ++ decimal id

-- ID WINNER MOVE;
abbrev pub line_of : ℕ → ℕ → Option ℕ → List ℕ
line_of id winner move = decimal id ++ (codes " " ++ (decimal winner ++ (move_text move ++ codes ";\n")))

-- the line of place n
abbrev pub line : List ℕ → Game → List ℕ → ℕ → List ℕ
line ids g o n = line_of (slice_index ids n) (side o n) (winners_move ids g o n)

-- the lines of the first n places
abbrev pub lines : List ℕ → Game → List ℕ → ℕ → List ℕ
lines ids g o zero = []
lines ids g o (suc n) = lines ids g o n ++ line ids g o n

-- paritysol N; and the lines of all places
abbrev pub solution : List ℕ → Game → List ℕ → List ℕ
solution ids g o = codes "paritysol " ++ (decimal (highest ids) ++ (codes ";\n" ++ lines ids g o (length g)))
