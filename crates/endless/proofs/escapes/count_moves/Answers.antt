use Rattle.std.proofs.Common.{arith, ◌∙◌, sym}
use Rattle.endless.specs.Sets.{whole}
use Rattle.endless.specs.Graph.{moves}
use Rattle.endless.proofs.Places.{to_place}
use Rattle.endless.proofs.Sets.{whole_in, whole_place}
use Rattle.endless.proofs.Ways.{ways_all}
use Rattle.endless.proofs.escapes.count_moves.Goals as goal

pub returns : goal.returns
returns c = λ n x.
    let g = c.args.graph.now in
    let reads = c.len-place-end.ensures.playable in
    c.loop-place.invariant n (omega (arith, whole_place g n x, c.loop-place-test.false, c.len-place-end.ensures.len)) ∙ sym (ways_all (whole g) (moves g n) (λ m may. whole_in g m (to_place reads n m may)))
