use Rattle.std.proofs.Common.{length, arith}
use Rattle.endless.proofs.Readers.{number_below}
use Rattle.endless.proofs.Solving.{behind_same}
use Rattle.distance.proofs.Sooner.{numbers}
use Rattle.distance.proofs.Calls.{said}
use Rattle.distance.proofs.distances.distances_to.Goals as goal

pub returns : goal.returns
returns c =
    let t = c.in_ok-accepted.ensures in
    let g = c.in_ok-accepted.accepted.game in
    rw (← c.in_ok-target.ensures.0) (said t.0 (λ e. cc) (
      g,
      t.1,
      omega arith,
      omega (arith, c.in_ok-out_room.ensures),
      numbers t.1 (number_below c.args.side) c.measure.ensures.measured,
      behind_same c.args.out.now c.measure.new.out (length g) (omega arith) c.measure.ensures.behind,
    ))
