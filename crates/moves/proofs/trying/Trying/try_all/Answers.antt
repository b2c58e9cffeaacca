use Rattle.std.proofs.Common.{◌<◌, length, ap, ◌∙◌, arith}
use Rattle.endless.specs.Games.{Game}
use Rattle.endless.specs.Graph.{moves}
use Rattle.moves.specs.declared.solved.Solved.{Solved}
use Rattle.moves.proofs.Lists.{next_most}
use Rattle.moves.proofs.Tries.{same_then, walked_more}
use Rattle.moves.proofs.trying.Trying.try_all.Goals as goal

pub overflow_add-first : goal.overflow_add-first
overflow_add-first c =
    let s = c.args.self.now in
    let g : Game = s.solved.places.now in
    let here : c.loop-place.place < length g = omega (arith, c.len-place-end.ensures.len) in
    let same = same_then c.loop-place.invariant.tried.same c.try_place.ensures.same in
    omega (arith, next_most g c.loop-place.place c.loop-place.first here c.loop-place.invariant.first_is, ap length c.moves.ensures.moves ∙ ap (λ (v : Solved). length (moves v.places.now c.loop-place.place)) same.solved, s.roomy.marks)

pub loop-place-preserved : goal.loop-place-preserved
loop-place-preserved c =
    let s = c.args.self.now in
    let here : c.loop-place.place < length s.solved.places.now = omega (arith, c.len-place-end.ensures.len) in
    let same = same_then c.loop-place.invariant.tried.same c.try_place.ensures.same in
    walked_more here c.loop-place.invariant (ap length c.moves.ensures.moves ∙ ap (λ (v : Solved). length (moves v.places.now c.loop-place.place)) same.solved) c.try_place.ensures.same c.try_place.ensures.tries
