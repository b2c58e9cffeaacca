use Rattle.std.proofs.Common.{rules, ◌≡◌, ◌+◌, ◌*◌, ◌<◌, T, length, get_or, replicate, sym, ap, ◌∙◌, subst, arith}
use Rattle.endless.specs.Says.{goes}
use Rattle.endless.proofs.Working.{goes_at}
use Rattle.moves.specs.Led.{leads}
use Rattle.moves.proofs.Lists.{within_words, fill_mid}
use Rattle.moves.proofs.Leading.{leading_led, leading_left}
use Rattle.moves.proofs.led.lead.Goals as goal
use Rattle.moves.proofs.led.lead.Goals.{then-leads, else-leads}

pub overflow_add-at : goal.overflow_add-at
overflow_add-at c =
    let s = c.args.solved.now in
    let here : c.loop-place.place < length s.places.now = omega (arith, c.len-place-end.ensures.len) in
    omega (arith, within_words s.places.now c.loop-place.place here, c.loop-place.invariant.at_is, ap length s.words_are, ap length c.moves-count.ensures.moves)

pub offset_bounds-made-at : goal.offset_bounds-made-at
offset_bounds-made-at c =
    let s = c.args.solved.now in
    let here : c.loop-place.place < length s.places.now = omega (arith, c.len-place-end.ensures.len) in
    omega (arith, within_words s.places.now c.loop-place.place here, c.loop-place.invariant.at_is, ap length s.words_are)

pub slice_bounds-fill-end : goal.slice_bounds-fill-end
slice_bounds-fill-end c =
    let s = c.args.solved.now in
    let here : c.loop-place.place < length s.places.now = omega (arith, c.len-place-end.ensures.len) in
    omega (arith, within_words s.places.now c.loop-place.place here, c.loop-place.invariant.at_is, ap length s.words_are, ap length c.moves-count.ensures.moves, c.requires)

pub overflow_add-at-in-loop-place-2 : goal.overflow_add-at-in-loop-place-2
overflow_add-at-in-loop-place-2 c =
    let s = c.args.solved.now in
    let here : c.loop-place.place < length s.places.now = omega (arith, c.len-place-end.ensures.len) in
    omega (arith, within_words s.places.now c.loop-place.place here, c.loop-place.invariant.at_is, ap length s.words_are, ap length c.moves-count.ensures.moves)

pub loop-place-preserved : goal.loop-place-preserved
loop-place-preserved c =
    let s = c.args.solved.now in
    let g = s.places.now in
    let a = s.answer.now in
    let k = c.loop-place.place in
    let here : k < length g = omega (arith, c.len-place-end.ensures.len) in
    let many = ap length c.moves-count.ensures.moves in
    elim c.if-leads.branch [
      | then-leads w ↦ leading_led g (leads g a) (goes a) here c.loop-place.invariant many (subst T (sym w.if-leads.true ∙ c.leads.ensures) tt)
          (w.made-is ∙ fill_mid c.loop-place.at (length c.moves-count.result.now) (goes a k) c.loop-place.made w.fill.new.self (let filled : w.fill.new.self ≡ replicate (length c.moves-count.result.now) (get_or a (2 * k + 1) 0) = search rules in filled ∙ ap (replicate (length c.moves-count.result.now)) (sym (goes_at a k))))
      | else-leads w ↦ leading_left g (leads g a) (goes a) here c.loop-place.invariant many (λ t. subst T (sym c.leads.ensures ∙ w.if-leads.false) t) w.made-is
    ]
