use Rattle.std.proofs.Common.{vec_items}
use Rattle.allplans.specs.Sets.{unknown}
use Rattle.allplans.specs.Sides.{side_word}
use Rattle.allplans.specs.Distances.{Upto}
use Rattle.allplans.proofs.distances.distances.Given as goal

abbrev pub invariant-loop-numbers : goal.invariant-loop-numbers
invariant-loop-numbers l = Upto (vec_items l.game.places) (side_word l.side) l.target l.moves (vec_items l.numbers)

abbrev pub decreases-loop-numbers : goal.decreases-loop-numbers
decreases-loop-numbers l = unknown (vec_items l.numbers)
