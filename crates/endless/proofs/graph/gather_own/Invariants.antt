use Rattle.endless.specs.Sides.{number}
use Rattle.endless.specs.Graph.{OwnTo}
use Rattle.endless.proofs.graph.gather_own.Given as goal

abbrev pub invariant-loop-place : goal.invariant-loop-place
invariant-loop-place l = OwnTo l.places (number l.side) l.place l.own
