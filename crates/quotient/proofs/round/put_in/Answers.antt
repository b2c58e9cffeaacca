use Rattle.std.proofs.Common.{◌≡◌, ◌+◌, ◌<◌, length, max, get_or, arith}
use Rattle.endless.specs.View.{words_of}
use Rattle.endless.proofs.Places.{ok_size}
use Rattle.quotient.specs.Refining.{part}
use Rattle.quotient.proofs.Returns.{named_few, same_part, returning_none, returning_old, returning_new, returning_parting, fits_number, number_low, count_low}
use Rattle.quotient.proofs.round.put_in.Goals as goal
use Rattle.quotient.proofs.round.put_in.Goals.{then-number-count, else-number-count}

pub loop-i-init : goal.loop-i-init
loop-i-init c = returning_none c.args.fresh.now c.requires.taken c.requires.named

pub number_for-number-requires-clause-below : goal.number_for-number-requires-clause-below
number_for-number-requires-clause-below c = λ n h. let a = c.loop-i.invariant.named.below n (omega (arith, c.loop-i.auto.parts, c.requires.parted.long)) in let b = named_few c.loop-i.invariant.named in omega (arith, c.loop-i.auto.sizes, c.requires.sizes)

pub bounds-sizes-number : goal.bounds-sizes-number
bounds-sizes-number c =
    let k = c.number_for-number.ensures in
    let f = fits_number c.requires.taken c.group.ensures.grouped c.loop-i.invariant c.loop-i-test.true c.number_for-number.result k.led k.own k.next in
    omega (arith, number_low c.requires.taken c.group.ensures.grouped c.loop-i.invariant c.loop-i-test.true f, c.loop-i.auto.sizes, c.requires.sizes)

pub overflow_add-sizes : goal.overflow_add-sizes
overflow_add-sizes c =
    omega (arith, count_low c.requires.taken c.group.ensures.grouped c.loop-i.invariant c.loop-i-test.true c.number_for-number.result, (ok_size (words_of c.args.places.now) c.args.places.now c.requires.parted.playable).1)

pub bounds-sizes-number-in-loop-i : goal.bounds-sizes-number-in-loop-i
bounds-sizes-number-in-loop-i c =
    let k = c.number_for-number.ensures in
    let f = fits_number c.requires.taken c.group.ensures.grouped c.loop-i.invariant c.loop-i-test.true c.number_for-number.result k.led k.own k.next in
    omega (arith, number_low c.requires.taken c.group.ensures.grouped c.loop-i.invariant c.loop-i-test.true f, c.loop-i.auto.sizes, c.requires.sizes)

pub overflow_add-number : goal.overflow_add-number
overflow_add-number c =
    let k = c.number_for-number.ensures in
    let f = fits_number c.requires.taken c.group.ensures.grouped c.loop-i.invariant c.loop-i-test.true c.number_for-number.result k.led k.own k.next in
    omega (arith, number_low c.requires.taken c.group.ensures.grouped c.loop-i.invariant c.loop-i-test.true f, (ok_size (words_of c.args.places.now) c.args.places.now c.requires.parted.playable).1)

pub loop-i-preserved : goal.loop-i-preserved
loop-i-preserved c =
    let k = c.number_for-number.ensures in
    let t = c.requires.taken in
    let inv = c.loop-i.invariant in
    let more = c.loop-i-test.true in
    let number = c.number_for-number.result in
    let f = fits_number t c.group.ensures.grouped inv more number k.led k.own k.next in
    let parts_long : length c.loop-i.parts ≡ length c.args.places.now = omega (arith, c.loop-i.auto.parts, c.requires.parted.long) in
    let sizes_long : length c.args.places.now < length c.loop-i.sizes = omega (arith, c.loop-i.auto.sizes, c.requires.sizes) in
    let was : part c.loop-i.parts (get_or c.args.list.now c.loop-i.i 0) < c.args.count = omega (arith, same_part t inv more, c.requires.named.below _ (t.places c.loop-i.i more)) in
    let top : c.max-many.result ≡ max c.loop-i.many (number + 1) = c.max-many.ensures in
    elim c.if-number-count.branch [
      | then-number-count w ↦ rw (w.fresh-is, w.listed-is, top) (returning_new t inv more f c.remove.ensures parts_long sizes_long was (omega (arith, w.if-number-count.true)) (omega (arith, c.loop-i.auto.fresh, c.requires.fresh)) c.requires.few)
      | else-number-count w ↦ rw (w.fresh-is, w.listed-is, top) (returning_old t inv more f c.remove.ensures parts_long sizes_long was (omega (arith, w.if-number-count.false)))
    ]

pub returns-clause-parting : goal.returns-clause-parting
returns-clause-parting c = returning_parting c.loop-i-test.false (omega (arith, c.loop-i.auto.i-end)) c.loop-i.invariant
