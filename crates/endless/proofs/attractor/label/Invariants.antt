use Rattle.endless.specs.Sides.{number}
use Rattle.endless.specs.Pulling.{Labelled}
use Rattle.endless.proofs.attractor.label.Given as goal

abbrev pub invariant-loop-i : goal.invariant-loop-i
invariant-loop-i l = Labelled (number l.side) l.queue l.via l.from l.i l.initial.out l.out
