use Rattle.std.proofs.Common.{◌<◌, length, arith}
use Rattle.std.proofs.lemmas.List.{length-set}
use Rattle.quotient.proofs.Writing.{number_low, writes_none, writes_room, writes_else, writes_lead}
use Rattle.quotient.proofs.write.write.Goals as goal
use Rattle.quotient.proofs.write.write.Goals.{then-parts-place, else-parts-place}

pub loop-place-init : goal.loop-place-init
loop-place-init c = record { writes = writes_none c.requires.parted c.args.numbers.now c.requires.numbered c.requires.count (omega (arith, c.requires.room)); empty = c.requires.empty }

pub write_place-at-requires-clause-low : goal.write_place-at-requires-clause-low
write_place-at-requires-clause-low c = number_low c.requires.parted c.args.numbers.now c.requires.numbered

pub write_place-at-requires-clause-room : goal.write_place-at-requires-clause-room
write_place-at-requires-clause-room c =
    let here : c.loop-place.place < length c.args.places.now = omega (arith, c.len-place-end.ensures.len) in
    omega (arith, writes_room c.requires.parted c.args.numbers.now c.requires.numbered c.loop-place.invariant.writes here, c.requires.room, c.loop-place.auto.words, length-set c.args.words.now 0 c.args.count)

pub loop-place-preserved : goal.loop-place-preserved
loop-place-preserved c =
    let here : c.loop-place.place < length c.args.places.now = omega (arith, c.len-place-end.ensures.len) in
    elim c.if-parts-place.branch [
      | then-parts-place w ↦
          rw (w.words-is, w.at-is, w.set-is)
          (record { writes = writes_lead c.requires.parted c.args.numbers.now c.requires.numbered c.loop-place.invariant.writes here w.if-parts-place.true w.write_place-at.ensures.put; empty = w.write_place-at.ensures.empty })
      | else-parts-place w ↦
          rw (w.words-is, w.at-is, w.set-is)
          (record { writes = writes_else c.requires.parted c.args.numbers.now c.requires.numbered c.loop-place.invariant.writes here w.if-parts-place.false; empty = c.loop-place.invariant.empty })
    ]
