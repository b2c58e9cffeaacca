use Rattle.endless.specs.Sides.{number}
use Rattle.endless.specs.Listed.{members_left}
use Rattle.endless.proofs.Reaching.{Handing}
use Rattle.endless.proofs.reach.give_all.Given as goal

abbrev pub invariant-loop-place : goal.invariant-loop-place
invariant-loop-place l = Handing l.graph (number l.side) l.set (members_left l.place-iterator) l.initial.out l.out
