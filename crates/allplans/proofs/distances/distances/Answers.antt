use Rattle.std.proofs.Common.{◌≡◌, ◌+◌, sym, ◌∙◌}
use Rattle.std.proofs.lemmas.Bool.{true≢false}
use Rattle.allplans.specs.Sides.{side_word}
use Rattle.allplans.proofs.Layers.{falls, next, next_read, numbers_decide, upto_last, upto_more}
use Rattle.allplans.proofs.distances.distances.Goals as goal

came : (c : goal.After-drop-numbers-in-loop-numbers) → c.in_ok-next.next.items ≡ next (side_word c.args.side) (c.loop-numbers.moves + 1) c.args.game.now.places.items c.loop-numbers.numbers.items
came c = c.in_ok-next.ensures ∙ next_read (side_word c.args.side) (c.loop-numbers.moves + 1) c.as_slice.ensures.value c.as_slice-in-loop-numbers.ensures.value

differ : (c : goal.After-drop-numbers-in-loop-numbers) → c.in_ok-next.next.items ≡ c.loop-numbers.numbers.items → ⊥
differ c e = true≢false (sym ((numbers_decide _ _).1 (c.as_slice-in-loop-numbers-2.ensures.value ∙ (e ∙ sym c.as_slice-in-loop-numbers-3.ensures.value))) ∙ (sym c.eq.ensures ∙ c.if-eq.false))

pub returns-then-eq : goal.returns-then-eq
returns-then-eq c =
    upto_last c.args.game.now.places.items (side_word c.args.side) c.args.target c.loop-numbers.moves c.loop-numbers.numbers.items c.in_ok-next.next.items
    (c.in_ok-next.ensures ∙ next_read (side_word c.args.side) (c.loop-numbers.moves + 1) c.as_slice.ensures.value c.as_slice-in-loop-numbers.ensures.value)
    (sym c.as_slice-in-loop-numbers-2.ensures.value ∙ ((numbers_decide _ _).0 (sym c.eq.ensures ∙ c.if-eq.true) ∙ c.as_slice-in-loop-numbers-3.ensures.value))
    c.loop-numbers.invariant

pub loop-numbers-smaller : goal.loop-numbers-smaller
loop-numbers-smaller c = falls (side_word c.args.side) (c.loop-numbers.moves + 1) c.args.game.now.places.items c.loop-numbers.numbers.items c.in_ok-next.next.items (came c) (differ c) c.loop-numbers.invariant.all_places

pub loop-numbers-preserved : goal.loop-numbers-preserved
loop-numbers-preserved c = upto_more c.args.game.now.places.items (side_word c.args.side) c.args.target c.loop-numbers.moves c.loop-numbers.numbers.items c.in_ok-next.next.items (came c) (differ c) c.loop-numbers.invariant
