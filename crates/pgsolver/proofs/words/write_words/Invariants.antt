use Rattle.std.proofs.Common.{length, vec_items}
use Rattle.pgsolver.proofs.Writes.{LeftWords}
use Rattle.pgsolver.proofs.words.write_words.Given as goal

abbrev pub invariant-loop-n : goal.invariant-loop-n
invariant-loop-n l = LeftWords l.places l.nodes l.weights (vec_items l.words) (length l.yielded)
