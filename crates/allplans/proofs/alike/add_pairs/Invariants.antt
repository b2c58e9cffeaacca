use Rattle.std.proofs.Common.{vec_items}
use Rattle.allplans.specs.Alike.{AllAdded}
use Rattle.allplans.proofs.alike.add_pairs.Given as goal

abbrev pub invariant-loop-other : goal.invariant-loop-other
invariant-loop-other l = AllAdded (vec_items l.initial.pairs) l.initial.one l.other (vec_items l.pairs)
