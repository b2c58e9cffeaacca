use Rattle.std.proofs.Common.{◌<◌, length, subst, arith}
use Rattle.endless.specs.Games.{Among}
use Rattle.endless.proofs.Among.{at_among}
use Rattle.endless.proofs.Places.{to_place}
use Rattle.quotient.proofs.Answered.{carries_more}
use Rattle.quotient.proofs.merged.carry_back.Goals as goal

pub move_into-requires : goal.move_into-requires
move_into-requires c = λ k h. omega (arith, to_place c.moves.ensures.playable c.loop-place.place _ (subst (Among _) c.moves.ensures.moves (at_among c.moves.result.now k h)), c.requires.to)

pub loop-place-preserved : goal.loop-place-preserved
loop-place-preserved c =
    let here : c.loop-place.place < length c.args.places.now = omega (arith, c.len-place-end.ensures.len) in
    carries_more c.loop-place.invariant (omega (arith, c.requires.out, c.loop-place.auto.out)) (c.requires.answer c.loop-place.place here) c.moves.result.now c.moves.ensures.moves c.move_into.result c.move_into.ensures
