use Rattle.endless.specs.Parts.{wanted, mark}
use Rattle.endless.specs.Gatherings.{SamePicking}
use Rattle.endless.proofs.Picking.{Picking}
use Rattle.endless.proofs.gather.Picking.take_listed.Given as goal

abbrev pub invariant-loop-place : goal.invariant-loop-place
invariant-loop-place l =
    let a = l.initial.self in
    SamePicking a l.self × Picking (wanted a.winner a.out.now) (mark a.winner) a.set.now l.list l.place-index l.self.set.now l.self.queue.now l.self.count
