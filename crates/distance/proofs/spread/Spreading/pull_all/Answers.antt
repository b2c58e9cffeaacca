use Rattle.std.proofs.Common.{arith}
use Rattle.distance.proofs.Pulls.{pulled_looks, are_now, pulling_more, pulling_all}
use Rattle.distance.proofs.spread.Spreading.pull_all.Goals as goal

pub pull-requires : goal.pull-requires
pull-requires c =
    let p = c.requires in
    let k = c.loop-from.invariant in
    let t = k.pulled p.0 p.1 p.2 p.3 p.4 p.5 in
    (p.0, p.1, p.2, c.loop-from.from-index, pulled_looks (are_now k c.preds-from-items.ensures.preds.are) p.3 (omega arith) t, t.going)

pub loop-from-preserved : goal.loop-from-preserved
loop-from-preserved c = pulling_more c.loop-from.invariant c.preds-from-items.ensures.preds.are (omega arith) c.pull.ensures.same c.pull.ensures.pulls

pub returns-clause-advances : goal.returns-clause-advances
returns-clause-advances c = pulling_all c.loop-from.invariant c.preds-from-items.ensures.preds.are (omega arith)
