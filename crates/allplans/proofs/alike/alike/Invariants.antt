use Rattle.std.proofs.Common.{length, vec_items}
use Rattle.allplans.specs.Alike.{Coarsest}
use Rattle.allplans.proofs.alike.alike.Given as goal

abbrev pub invariant-loop-pairs : goal.invariant-loop-pairs
invariant-loop-pairs l = Coarsest (vec_items l.game.places) (vec_items l.pairs)

abbrev pub decreases-loop-pairs : goal.decreases-loop-pairs
decreases-loop-pairs l = length (vec_items l.pairs)
