use Rattle.std.proofs.Common.{set, arith}
use Rattle.std.proofs.lemmas.List.{length-map}
use Rattle.endless.specs.Graph.{joined, positions}
use Rattle.endless.proofs.PositionLaws.{position_is, positions_set}
use Rattle.endless.proofs.Totals.{summed_start, summed_fits, summed_more}
use Rattle.endless.proofs.graph.sum_up.Goals as goal

pub loop-count-init : goal.loop-count-init
loop-count-init c = summed_start (positions c.args.counts.now)

pub overflow_add-sum : goal.overflow_add-sum
overflow_add-sum c =
    let fits = summed_fits (positions c.args.counts.now) c.loop-count.count-index (positions c.loop-count.counts) c.loop-count.sum
    c.loop-count.invariant _ c.loop-count-test.true c.requires in
    omega (arith, position_is c.loop-count.counts c.loop-count.count-index c.position-sum.ensures)

pub loop-count-preserved : goal.loop-count-preserved
loop-count-preserved c =
    summed_more (positions c.args.counts.now) c.loop-count.count-index (positions c.loop-count.counts) c.loop-count.sum
    c.loop-count.invariant (positions (set c.loop-count.counts c.loop-count.count-index c.halves.result)) c.position-sum.result
    (omega (arith, length-map c.loop-count.counts joined)) (position_is c.loop-count.counts c.loop-count.count-index c.position-sum.ensures)
    (positions_set c.loop-count.counts c.loop-count.count-index c.halves.result c.halves.ensures)
