use Rattle.endless.specs.Says.{side, goes}
use Rattle.endless.specs.Sides.{number}
use Rattle.moves.specs.Marking.{Noted}
use Rattle.moves.proofs.solved.Solved.mark_plan.Given as goal

abbrev pub invariant-loop-k : goal.invariant-loop-k
invariant-loop-k l = Noted l.self.places.now (side l.self.answer.now) (number l.side) (goes l.plan) l.first l.k l.initial.out l.out
