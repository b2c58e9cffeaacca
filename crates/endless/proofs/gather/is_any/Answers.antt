use Rattle.std.proofs.Common.{◌≡◌, ◌+◌, ◌++◌, ◌∷◌, [], length, length-append, sym, ◌∙◌, arith}
use Rattle.endless.specs.Parts.{wanted, mark}
use Rattle.endless.proofs.Picking.{turn_at, end_at, any_here, any_more}
use Rattle.endless.proofs.gather.is_any.Goals as goal

pub is_wanted-requires : goal.is_wanted-requires
is_wanted-requires g c =
    let turn = turn_at g.I.Iterator.next_gives c.requires.inside.0 c.into_iter-place-iterator.ensures.into_iter_gives c.requires.inside.1 c.loop-place.yielded c.loop-place.place-iterator c.loop-place.yielded_by c.next.result c.next.new.self c.in-Some.place c.in-Some.is c.next.ensures.steps in
    omega (arith, turn.1, c.requires.inside.2 (length c.loop-place.yielded) turn.0)

pub returns-then-is_wanted : goal.returns-then-is_wanted
returns-then-is_wanted g c = λ list gives.
    let turn = turn_at g.I.Iterator.next_gives list c.into_iter-place-iterator.ensures.into_iter_gives gives c.loop-place.yielded c.loop-place.place-iterator c.loop-place.yielded_by c.next.result c.next.new.self c.in-Some.place c.in-Some.is c.next.ensures.steps in
    any_here (wanted c.args.winner c.args.out.now) (mark c.args.winner) list (length c.loop-place.yielded) turn.0 turn.1 (sym c.is_wanted.ensures ∙ c.if-is_wanted.true)

pub loop-place-preserved : goal.loop-place-preserved
loop-place-preserved g c = λ list gives.
    let turn = turn_at g.I.Iterator.next_gives list c.into_iter-place-iterator.ensures.into_iter_gives gives c.loop-place.yielded c.loop-place.place-iterator c.loop-place.yielded_by c.next.result c.next.new.self c.in-Some.place c.in-Some.is c.next.ensures.steps in
    let more : length (c.loop-place.yielded ++ c.in-Some.place ∷ []) ≡ length c.loop-place.yielded + 1 = length-append c.loop-place.yielded (c.in-Some.place ∷ []) in
    rw more (any_more (wanted c.args.winner c.args.out.now) (mark c.args.winner) list (length c.loop-place.yielded) turn.1 (c.loop-place.invariant list gives) (sym c.is_wanted.ensures ∙ c.if-is_wanted.false))

pub returns : goal.returns
returns g c = λ list gives.
    let end = end_at g.I.Iterator.next_gives list c.into_iter-place-iterator.ensures.into_iter_gives gives c.loop-place.yielded c.loop-place.place-iterator c.loop-place.yielded_by c.next.result c.next.new.self c.in-None.is c.next.ensures.steps in
    rw (← end) (c.loop-place.invariant list gives)
