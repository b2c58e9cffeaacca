use Rattle.std.proofs.Common.{refl, inl, inr, arith}
use Rattle.endless.proofs.Queueing.{queueing_none, queueing_more, queueing_all}
use Rattle.endless.proofs.attractor.Attraction.attract.Goals as goal

pub queue-init : goal.queue-init
queue-init c = (queueing_none (record { graph = refl; side = refl; left = refl; queue = refl; via = refl; escapes = refl; queue_long = refl; via_long = refl; escapes_long = refl }), c.requires.counted)

pub queue-preserved : goal.queue-preserved
queue-preserved c = (queueing_more c.queue.invariant.0 (omega arith) c.pull_all.ensures.same c.pull_all.ensures.moves c.pull_all.ensures.keeps c.pull_all.ensures.looks, c.queue.invariant.1)

pub returns-after-queue-clause-brings : goal.returns-after-queue-clause-brings
returns-after-queue-clause-brings c = queueing_all c.queue.invariant.0 (inl (omega (arith, c.queue.invariant.0.order)))

pub returns-then-self-all-clause-brings : goal.returns-then-self-all-clause-brings
returns-then-self-all-clause-brings c =
    let k = queueing_more c.queue.invariant.0 (omega arith) c.pull_all.ensures.same c.pull_all.ensures.moves c.pull_all.ensures.keeps c.pull_all.ensures.looks in
    queueing_all k (inr (omega (arith, k.moved.counts, c.queue.invariant.1)))
