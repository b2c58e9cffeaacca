use Rattle.std.proofs.Common.{◌≡◌, ◌+◌, ◌<◌, ◌++◌, ◌∷◌, [], length, length-append, ap, arith, Bor}
use Rattle.endless.specs.Games.{Game}
use Rattle.endless.proofs.Picking.{turn_at, end_at, taking_more, taking_all, gathering_then, taken_so}
use Rattle.endless.proofs.gather.Gathering.take_all.Goals as goal

pub take-requires : goal.take-requires
take-requires g c =
    let turn = turn_at g.I.Iterator.next_gives c.requires.inside.0 c.into_iter-place-iterator.ensures.into_iter_gives c.requires.inside.1 c.loop-place.yielded c.loop-place.place-iterator c.loop-place.yielded_by c.next.result c.next.new.self c.in-Some.place c.in-Some.is c.next.ensures.steps in
    record { place = rw c.loop-place.invariant.0.graph (omega (arith, turn.1, c.requires.inside.2 (length c.loop-place.yielded) turn.0)) }

pub loop-place-preserved : goal.loop-place-preserved
loop-place-preserved g c =
    let same = c.loop-place.invariant.0 in (
      gathering_then same c.take.ensures.same,
      λ list yields.
          let turn = turn_at g.I.Iterator.next_gives list c.into_iter-place-iterator.ensures.into_iter_gives yields c.loop-place.yielded c.loop-place.place-iterator c.loop-place.yielded_by c.next.result c.next.new.self c.in-Some.place c.in-Some.is c.next.ensures.steps in
          let known = turn_at g.I.Iterator.next_gives c.requires.inside.0 c.into_iter-place-iterator.ensures.into_iter_gives c.requires.inside.1 c.loop-place.yielded c.loop-place.place-iterator c.loop-place.yielded_by c.next.result c.next.new.self c.in-Some.place c.in-Some.is c.next.ensures.steps in
          let more : length (c.loop-place.yielded ++ c.in-Some.place ∷ []) ≡ length c.loop-place.yielded + 1 = length-append c.loop-place.yielded (c.in-Some.place ∷ []) in
          let here : c.in-Some.place < length c.args.self.now.graph.now = omega (arith, known.1, c.requires.inside.2 (length c.loop-place.yielded) known.0) in
          let long : length c.loop-place.self.graph.now ≡ length c.args.self.now.graph.now = ap (λ (x : Bor Game). length x.now) same.graph in
          rw more (taking_more (c.loop-place.invariant.1 list yields) (omega (arith, c.args.self.now.room, same.queue_long)) (omega (arith, turn.1, here, long, c.loop-place.self.fitting.answers)) (rw turn.1 (taken_so c.take.new.self same c.take.ensures.takes))),
    )

pub returns-clause-gathered : goal.returns-clause-gathered
returns-clause-gathered g c = λ list yields.
    taking_all (c.loop-place.invariant.1 list yields) (end_at g.I.Iterator.next_gives list c.into_iter-place-iterator.ensures.into_iter_gives yields c.loop-place.yielded c.loop-place.place-iterator c.loop-place.yielded_by c.next.result c.next.new.self c.in-None.is c.next.ensures.steps)
