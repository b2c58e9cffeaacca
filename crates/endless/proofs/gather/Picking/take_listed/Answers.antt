use Rattle.std.proofs.Common.{arith}
use Rattle.endless.proofs.Picking.{picking_more, picking_all, same_picking_then, picked_so}
use Rattle.endless.proofs.gather.Picking.take_listed.Goals as goal

pub loop-place-preserved : goal.loop-place-preserved
loop-place-preserved c =
    let same = c.loop-place.invariant.0 in
    (same_picking_then same c.take.ensures.same, picking_more c.loop-place.invariant.1 (omega (arith, c.args.self.now.room, same.queue_long)) (picked_so c.take.new.self same c.take.ensures.picks))

pub returns-clause-all : goal.returns-clause-all
returns-clause-all c = λ R inside told. picking_all c.loop-place.invariant.1 R (omega arith) inside (λ n. (told n).0) (λ n x. (told n).1)
