use Rattle.std.proofs.Common.{◌≡◌, ℕ, ◌<◌, true, vec_items}
use Rattle.allplans.specs.Alike.{related}
use Rattle.allplans.proofs.alike.all_pairs.Given as goal

abbrev pub invariant-loop-one : goal.invariant-loop-one
invariant-loop-one l = (v u : ℕ) → v < l.one → u < l.places → related (vec_items l.pairs) v u ≡ true
