use Rattle.std.proofs.Common.{rules, ◌≡◌, ◌<◌, length, replicate, sym, ap, ◌∙◌, arith}
use Rattle.std.proofs.lemmas.List.{length-replicate}
use Rattle.endless.specs.Graph.{moves}
use Rattle.moves.proofs.Lists.{next_most, put_next, listed_more}
use Rattle.moves.proofs.listing.list_moves.Goals as goal

pub overflow_add-next : goal.overflow_add-next
overflow_add-next c =
    let here : c.loop-place.place < length c.args.places.now = omega (arith, c.len-place-end.ensures.len) in
    omega (arith, next_most c.args.places.now c.loop-place.place c.loop-place.first here c.loop-place.invariant.first_is, ap length c.moves-moves.ensures.moves, c.requires.from)

pub offset_bounds-from-first : goal.offset_bounds-from-first
offset_bounds-from-first c =
    let here : c.loop-place.place < length c.args.places.now = omega (arith, c.len-place-end.ensures.len) in
    omega (arith, next_most c.args.places.now c.loop-place.place c.loop-place.first here c.loop-place.invariant.first_is, c.requires.from)

pub slice_bounds-fill-end : goal.slice_bounds-fill-end
slice_bounds-fill-end c =
    let here : c.loop-place.place < length c.args.places.now = omega (arith, c.len-place-end.ensures.len) in
    omega (arith, next_most c.args.places.now c.loop-place.place c.loop-place.first here c.loop-place.invariant.first_is, ap length c.moves-moves.ensures.moves, c.requires.from)

pub offset_bounds-to-first : goal.offset_bounds-to-first
offset_bounds-to-first c =
    let here : c.loop-place.place < length c.args.places.now = omega (arith, c.len-place-end.ensures.len) in
    omega (arith, next_most c.args.places.now c.loop-place.place c.loop-place.first here c.loop-place.invariant.first_is, c.requires.to)

pub slice_bounds-copy_from_slice-end : goal.slice_bounds-copy_from_slice-end
slice_bounds-copy_from_slice-end c =
    let here : c.loop-place.place < length c.args.places.now = omega (arith, c.len-place-end.ensures.len) in
    omega (arith, next_most c.args.places.now c.loop-place.place c.loop-place.first here c.loop-place.invariant.first_is, ap length c.moves-moves.ensures.moves, c.requires.to)

pub loop-place-preserved : goal.loop-place-preserved
loop-place-preserved c =
    let here : c.loop-place.place < length c.args.places.now = omega (arith, c.len-place-end.ensures.len) in
    let most = next_most c.args.places.now c.loop-place.place c.loop-place.first here c.loop-place.invariant.first_is in
    let these = c.moves-moves.ensures.moves in
    let filled : c.fill.new.self ≡ replicate (length c.moves-moves.result.now) c.loop-place.place = search rules in
    let copied : c.copy_from_slice.new.self ≡ moves c.args.places.now c.loop-place.place = c.copy_from_slice.ensures.after ∙ these in
    listed_more here c.loop-place.invariant (ap length these)
    (put_next c.loop-place.first _ c.loop-place.from c.fill.new.self filled (length-replicate (length c.moves-moves.result.now) c.loop-place.place) (omega (arith, most, c.requires.from)))
    (put_next c.loop-place.first _ c.loop-place.to c.copy_from_slice.new.self copied (ap length (sym these)) (omega (arith, most, c.requires.to)))
