use Rattle.std.proofs.Common.{◌≡◌, ◌+◌, ◌++◌, ◌∷◌, [], length, length-append, refl, ◌∙◌, arith}
use Rattle.std.proofs.lemmas.List.{length-set}
use Rattle.endless.proofs.Picking.{turn_at, end_at}
use Rattle.endless.proofs.Recounting.{recounted_none, recounted_more}
use Rattle.endless.proofs.escapes.count_each.Goals as goal

pub ways_into-requires-clause-place : goal.ways_into-requires-clause-place
ways_into-requires-clause-place g c =
    let turn = turn_at g.I.Iterator.next_gives c.requires.inside.0 c.into_iter-place-iterator.ensures.into_iter_gives c.requires.inside.1 c.loop-place.yielded c.loop-place.place-iterator c.loop-place.yielded_by c.next.result c.next.new.self c.in-Some.place c.in-Some.is c.next.ensures.steps in
    omega (arith, turn.1, c.requires.inside.2 (length c.loop-place.yielded) turn.0)

pub bounds-escapes-place : goal.bounds-escapes-place
bounds-escapes-place g c =
    let turn = turn_at g.I.Iterator.next_gives c.requires.inside.0 c.into_iter-place-iterator.ensures.into_iter_gives c.requires.inside.1 c.loop-place.yielded c.loop-place.place-iterator c.loop-place.yielded_by c.next.result c.next.new.self c.in-Some.place c.in-Some.is c.next.ensures.steps in
    omega (arith, turn.1, c.requires.inside.2 (length c.loop-place.yielded) turn.0, c.requires.room, c.loop-place.invariant.0)

pub loop-place-init : goal.loop-place-init
loop-place-init g c = (refl, λ list gives. recounted_none c.args.graph.now _ list c.args.escapes.now)

pub loop-place-preserved : goal.loop-place-preserved
loop-place-preserved g c = (
  length-set c.loop-place.escapes c.in-Some.place c.ways_into.result ∙ c.loop-place.invariant.0,
  λ list gives.
      let turn = turn_at g.I.Iterator.next_gives list c.into_iter-place-iterator.ensures.into_iter_gives gives c.loop-place.yielded c.loop-place.place-iterator c.loop-place.yielded_by c.next.result c.next.new.self c.in-Some.place c.in-Some.is c.next.ensures.steps in
      let known = turn_at g.I.Iterator.next_gives c.requires.inside.0 c.into_iter-place-iterator.ensures.into_iter_gives c.requires.inside.1 c.loop-place.yielded c.loop-place.place-iterator c.loop-place.yielded_by c.next.result c.next.new.self c.in-Some.place c.in-Some.is c.next.ensures.steps in
      let more : length (c.loop-place.yielded ++ c.in-Some.place ∷ []) ≡ length c.loop-place.yielded + 1 = length-append c.loop-place.yielded (c.in-Some.place ∷ []) in
      rw (more, c.ways_into.ensures) (recounted_more (c.loop-place.invariant.1 list gives) c.in-Some.place turn.1 (omega (arith, known.1, c.requires.inside.2 (length c.loop-place.yielded) known.0, c.requires.room, c.loop-place.invariant.0))),
)

pub returns : goal.returns
returns g c = λ list gives.
    let end = end_at g.I.Iterator.next_gives list c.into_iter-place-iterator.ensures.into_iter_gives gives c.loop-place.yielded c.loop-place.place-iterator c.loop-place.yielded_by c.next.result c.next.new.self c.in-None.is c.next.ensures.steps in
    rw (← end) (c.loop-place.invariant.1 list gives)
