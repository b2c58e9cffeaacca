use Rattle.std.proofs.Common.{◌∙◌, arith}
use Rattle.allplans.proofs.Alikes.{coarser, fewer, kept_read, settled}
use Rattle.allplans.proofs.alike.alike.Goals as goal

pub returns-then-len : goal.returns-then-len
returns-then-len c =
    settled c.args.game.now.places.items c.loop-pairs.pairs.items c.in_ok-left.left.items
    (c.in_ok-left.ensures ∙ kept_read c.as_slice-places.ensures.value c.as_slice.ensures.value)
    (omega (arith, c.if-len.true, c.len.ensures, c.len-in-loop-pairs.ensures, c.in_ok-left.left.ok.0, c.loop-pairs.pairs.ok.0))
    c.loop-pairs.invariant

pub loop-pairs-smaller : goal.loop-pairs-smaller
loop-pairs-smaller c =
    fewer c.args.game.now.places.items c.loop-pairs.pairs.items c.in_ok-left.left.items
    (c.in_ok-left.ensures ∙ kept_read c.as_slice-places.ensures.value c.as_slice.ensures.value)
    (λ e. c.if-len.false (omega (arith, e, c.len.ensures, c.len-in-loop-pairs.ensures, c.in_ok-left.left.ok.0, c.loop-pairs.pairs.ok.0)))

pub loop-pairs-preserved : goal.loop-pairs-preserved
loop-pairs-preserved c =
    coarser c.args.game.now.places.items c.loop-pairs.pairs.items c.in_ok-left.left.items
    (c.in_ok-left.ensures ∙ kept_read c.as_slice-places.ensures.value c.as_slice.ensures.value)
    c.loop-pairs.invariant
