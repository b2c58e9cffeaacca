use Rattle.std.proofs.Common.{◌<◌, length, ap, arith}
use Rattle.endless.proofs.Places.{some_moves}
use Rattle.distance.proofs.Clearing.{cleared_more}
use Rattle.distance.proofs.spread.clear.Goals as goal

pub bounds-moves-0 : goal.bounds-moves-0
bounds-moves-0 c =
    let here : c.loop-place.place < length c.args.places.now = omega (arith, c.len-place-end.ensures.len) in
    omega (arith, some_moves c.moves-moves.ensures.playable c.loop-place.place here, ap length c.moves-moves.ensures.moves)

pub loop-place-preserved : goal.loop-place-preserved
loop-place-preserved c =
    let here : c.loop-place.place < length c.args.places.now = omega (arith, c.len-place-end.ensures.len) in
    cleared_more c.moves-moves.ensures.playable c.loop-place.invariant here (omega (arith, c.requires.answers)) (omega (arith, c.requires.counts)) c.moves-moves.ensures.moves c.head.ensures.moves
