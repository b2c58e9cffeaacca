use Rattle.std.proofs.Common.{ℕ, List, length}
use Rattle.endless.specs.Sides.{number}
use Rattle.endless.specs.Parts.{Gives}
use Rattle.endless.specs.Gatherings.{SameGathering}
use Rattle.endless.proofs.Picking.{Taking}
use Rattle.endless.proofs.gather.Gathering.take_all.Given as goal

abbrev pub invariant-loop-place : goal.invariant-loop-place
invariant-loop-place g l =
    SameGathering l.initial.self l.self
    × ((list : List ℕ) → Gives g.I.Iterator.next_gives l.fn.places list → Taking l.initial.self.graph.now (number l.initial.self.side) l.initial.self.heaviest l.initial.self.own.now l.initial.self.left.now l.initial.self.out.now list (length l.yielded) l.self.left.now l.self.queue.now l.self.out.now l.self.count)
