use Rattle.std.proofs.Common.{length, ap, arith}
use Rattle.endless.specs.Sides.{number as side-number}
use Rattle.distance.proofs.Spreads.{spread_first}
use Rattle.distance.proofs.distances.number_from.Goals as goal

pub spread-requires-clause-spread : goal.spread-requires-clause-spread
spread-requires-clause-spread c =
    rw (← c.places.ensures) (
      c.args.target,
      c.args.out.now,
      spread_first c.clear.ensures.playable (side-number c.args.side) c.args.queue.now c.clear.ensures.cleared (omega (arith, c.requires.target, ap length c.places.ensures)) (omega (arith, c.requires.roomy.answers, ap length c.places.ensures)) (omega (arith, c.requires.target, c.requires.roomy.queues)),
    )

pub returns : goal.returns
returns c =
    let end = c.spread.ensures c.args.target c.args.out.now
    (rw (← c.places.ensures)
    (spread_first c.clear.ensures.playable (side-number c.args.side) c.args.queue.now c.clear.ensures.cleared (omega (arith, ap length c.places.ensures)) (omega (arith, c.requires.roomy.answers, ap length c.places.ensures)) (omega (arith, c.requires.roomy.queues)))) in
    record { behind = end.1; measured = end.0 }
