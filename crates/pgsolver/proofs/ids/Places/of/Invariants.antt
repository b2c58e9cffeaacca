use Rattle.pgsolver.specs.Form.{ids_in}
use Rattle.pgsolver.proofs.Writes.{IndexedTo}
use Rattle.pgsolver.proofs.ids.Places.of.Given as goal

abbrev pub invariant-loop-n : goal.invariant-loop-n
invariant-loop-n l = IndexedTo (ids_in l.nodes) l.ids.keys l.n
