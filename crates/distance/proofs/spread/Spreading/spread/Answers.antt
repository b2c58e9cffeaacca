use Rattle.std.proofs.Common.{refl, ap, length, Bor, arith}
use Rattle.endless.specs.Games.{Game}
use Rattle.distance.proofs.Pulls.{advancing_most, advancing_more, advancing_all}
use Rattle.distance.proofs.spread.Spreading.spread.Goals as goal

pub offset_bounds-self-head : goal.offset_bounds-self-head
offset_bounds-self-head c = let p = c.requires in omega (arith, advancing_most c.loop-head.invariant p.0 p.1 p.2, c.loop-head.self.roomy.queues)

pub bounds-self-head : goal.bounds-self-head
bounds-self-head c = let p = c.requires in omega (arith, advancing_most c.loop-head.invariant p.0 p.1 p.2, c.loop-head.self.roomy.queues)

pub pull_all-requires : goal.pull_all-requires
pull_all-requires c = let p = c.requires in (p.0, p.1, c.loop-head.head, omega arith, refl, c.loop-head.invariant.going p.0 p.1 p.2)

pub loop-head-smaller : goal.loop-head-smaller
loop-head-smaller c =
    let p = c.requires in
    omega (arith, advancing_most c.loop-head.invariant p.0 p.1 p.2, ap (λ (g : Bor Game). length g.now) c.loop-head.invariant.same.graph)

pub loop-head-preserved : goal.loop-head-preserved
loop-head-preserved c = advancing_more c.loop-head.invariant (omega arith) c.pull_all.ensures.same c.pull_all.ensures.advances

pub returns-clause-measures : goal.returns-clause-measures
returns-clause-measures c = advancing_all c.loop-head.invariant (omega arith)
