use Rattle.std.proofs.Common.{arith}
use Rattle.endless.proofs.Places.{from_place}
use Rattle.endless.proofs.Looking.{may_at, looking_more, looking_all}
use Rattle.endless.proofs.attractor.Attraction.pull_all.Goals as goal

pub pull-requires : goal.pull-requires
pull-requires c =
    let g = c.args.self.now.graph.now in
    record { from = rw c.loop-from.invariant.same.graph (from_place g _ c.args.to (may_at g c.args.to c.preds-from-items.result.now c.preds-from-items.ensures.preds.are c.loop-from.from-index (omega arith))) }

pub loop-from-preserved : goal.loop-from-preserved
loop-from-preserved c = looking_more c.loop-from.invariant c.preds-from-items.ensures.preds.are (omega arith) c.pull.ensures.same c.pull.ensures.pulls

pub returns-clause-looks : goal.returns-clause-looks
returns-clause-looks c = looking_all c.loop-from.invariant (omega arith)
