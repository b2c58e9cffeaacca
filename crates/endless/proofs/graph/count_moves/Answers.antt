use Rattle.std.proofs.Common.{get_or, set, arith}
use Rattle.std.proofs.lemmas.List.{length-map}
use Rattle.endless.specs.Graph.{joined, positions}
use Rattle.endless.proofs.PositionLaws.{position_is, positions_set}
use Rattle.endless.proofs.Totals.{counts_more, counts_fits}
use Rattle.endless.proofs.graph.count_moves.Goals as goal

pub overflow_add-position : goal.overflow_add-position
overflow_add-position c =
    let fits = counts_fits (positions c.args.counts.now) c.args.targets.now c.loop-target.target-index
    (positions c.loop-target.counts) c.loop-target.invariant c.loop-target-test.true c.requires.fits in
    omega (arith, position_is c.loop-target.counts (get_or c.args.targets.now c.loop-target.target-index 0) c.position.ensures)

pub loop-target-preserved : goal.loop-target-preserved
loop-target-preserved c =
    let target = get_or c.args.targets.now c.loop-target.target-index 0 in
    counts_more (positions c.args.counts.now) c.args.targets.now c.loop-target.target-index
    (positions c.loop-target.counts) (positions (set c.loop-target.counts target c.halves.result)) c.loop-target.invariant c.loop-target-test.true
    (omega (arith, c.requires.within c.loop-target.target-index c.loop-target-test.true, length-map c.loop-target.counts joined))
    c.position.result (position_is c.loop-target.counts target c.position.ensures)
    (positions_set c.loop-target.counts target c.halves.result c.halves.ensures)
