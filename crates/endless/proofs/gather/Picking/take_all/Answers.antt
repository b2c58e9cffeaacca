use Rattle.std.proofs.Common.{arith}
use Rattle.endless.proofs.Gathering.{gathering_below, gathering_more, gathering_all}
use Rattle.endless.proofs.Picking.{same_picking_then, picked_so}
use Rattle.endless.proofs.gather.Picking.take_all.Goals as goal

pub take-requires : goal.take-requires
take-requires c = record { inside = omega (arith, gathering_below c.loop-place.invariant.1 c.in-Some.ensures, c.loop-place.invariant.0.set_long) }

pub overflow_add-from : goal.overflow_add-from
overflow_add-from c = omega (arith, gathering_below c.loop-place.invariant.1 c.in-Some.ensures, c.args.self.now.small)

pub loop-place-smaller : goal.loop-place-smaller
loop-place-smaller c = let least = c.in-Some.ensures in omega (arith, gathering_below c.loop-place.invariant.1 least, least.after)

pub loop-place-preserved : goal.loop-place-preserved
loop-place-preserved c =
    let same = c.loop-place.invariant.0 in
    (same_picking_then same c.take.ensures.same, gathering_more c.loop-place.invariant.1 c.in-Some.ensures (omega (arith, c.args.self.now.room, same.queue_long)) (picked_so c.take.new.self same c.take.ensures.picks))

pub returns-clause-all : goal.returns-clause-all
returns-clause-all c = gathering_all c.loop-place.invariant.1 c.in_default.ensures
