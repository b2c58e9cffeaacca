use Rattle.std.proofs.Common.{◌≡◌, Bool, true, false, get_or, refl, ap, ◌∙◌, arith}
use mir.Val.{bool_byte}
use Rattle.endless.specs.Bits.{members}
use Rattle.endless.proofs.CountLaws.{one_if}
use Rattle.endless.proofs.MovesAt.{move_inside}
use Rattle.endless.proofs.Ways.{ways_le, ways_next}
use Rattle.endless.proofs.escapes.ways_into.Goals as goal

as_number : (b : Bool) → bool_byte b ≡ one_if b
as_number true = refl
as_number false = refl

pub has-requires : goal.has-requires
has-requires c = omega (arith, move_inside c.moves-to-items.ensures.playable c.args.place c.moves-to-items.result.now c.moves-to-items.ensures.moves c.loop-to.to-index c.loop-to-test.true, c.requires.sets)

pub overflow_add-count : goal.overflow_add-count
overflow_add-count c =
    let items = c.moves-to-items.result.now in
    let one : c.from-count.result ≡ one_if (members c.args.set.now (get_or items c.loop-to.to-index 0)) = c.from-count.ensures ∙ as_number c.has.result ∙ ap one_if c.has.ensures in
    omega (arith, one, c.loop-to.invariant, ways_next (members c.args.set.now) items c.loop-to.to-index c.loop-to-test.true, ways_le (members c.args.set.now) items, c.moves-to-items.ensures.few)
