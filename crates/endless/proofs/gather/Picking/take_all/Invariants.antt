use Rattle.std.proofs.Common.{◌-◌, ◌*◌, length}
use Rattle.endless.specs.Parts.{wanted, mark}
use Rattle.endless.specs.Gatherings.{SamePicking}
use Rattle.endless.proofs.Gathering.{Gathering}
use Rattle.endless.proofs.gather.Picking.take_all.Given as goal

abbrev pub invariant-loop-place : goal.invariant-loop-place
invariant-loop-place l =
    let a = l.initial.self in
    SamePicking a l.self × Gathering (wanted a.winner a.out.now) (mark a.winner) a.set.now l.self.set.now l.self.queue.now l.from l.self.count

abbrev pub decreases-loop-place : goal.decreases-loop-place
decreases-loop-place l = 32 * length l.initial.self.set.now - l.from
