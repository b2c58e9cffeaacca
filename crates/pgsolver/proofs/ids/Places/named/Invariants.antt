use Rattle.std.proofs.Common.{map}
use Rattle.pgsolver.proofs.Writes.{IndexedTo}
use Rattle.pgsolver.proofs.ids.Places.named.Given as goal

abbrev pub invariant-loop-named : goal.invariant-loop-named
invariant-loop-named l = IndexedTo (map (λ p. p.id) l.nodes) l.ids.keys l.named-index
