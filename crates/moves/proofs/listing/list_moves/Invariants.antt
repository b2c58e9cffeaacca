use Rattle.moves.proofs.Lists.{Listed}
use Rattle.moves.proofs.listing.list_moves.Given as goal

abbrev pub invariant-loop-place : goal.invariant-loop-place
invariant-loop-place l = Listed l.places l.place l.first l.from l.to
