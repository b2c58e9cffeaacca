use Rattle.std.proofs.Common.{◌≡◌, ℕ, ◌≤◌, List, length, take, sym, subst, arith}
use Rattle.std.proofs.lemmas.List.{length-take-le}
use Rattle.endless.specs.Games.{Game}
use Rattle.quotient.specs.Rounds.{Sized, Taken, Fresh, Named, Parting}
use Rattle.quotient.proofs.Takings.{taken_few, taken_front}
use Rattle.quotient.proofs.Rounds.{between, fresh_front, came_front, which_front}
use Rattle.quotient.proofs.round.round.Goals as goal

pub take_all_out-many-requires-clause-fresh : goal.take_all_out-many-requires-clause-fresh
take_all_out-many-requires-clause-fresh c = fresh_front c.requires.between.1.fresh

pub split_at_mut-list-requires : goal.split_at_mut-list-requires
split_at_mut-list-requires c = omega (arith, taken_few c.take_all_out-many.ensures.taken, c.take_all_out-many.auto.list, c.requires.list)

pub put_in-requires-clause-made : goal.put_in-requires-clause-made
put_in-requires-clause-made c = omega (arith, taken_few c.take_all_out-many.ensures.taken, c.split_at_mut-list.ensures.front_len, c.requires.made)

pub put_in-requires-clause-heads : goal.put_in-requires-clause-heads
put_in-requires-clause-heads c = omega (arith, taken_few c.take_all_out-many.ensures.taken, c.split_at_mut-list.ensures.front_len, c.requires.heads)

pub put_in-requires-clause-links : goal.put_in-requires-clause-links
put_in-requires-clause-links c = omega (arith, taken_few c.take_all_out-many.ensures.taken, c.split_at_mut-list.ensures.front_len, c.requires.links)

pub put_in-requires-clause-few : goal.put_in-requires-clause-few
put_in-requires-clause-few c =
    let front : c.split_at_mut-list.result.0.now ≡ take c.take_all_out-many.result c.take_all_out-many.new.list = c.split_at_mut-list.ensures.front in
    let few = taken_few c.take_all_out-many.ensures.taken in
    rw (front, c.places.ensures) (omega (arith, few, length-take-le c.take_all_out-many.result c.take_all_out-many.new.list (omega (arith, few, c.take_all_out-many.auto.list, c.requires.list))))

pub put_in-requires-clause-taken : goal.put_in-requires-clause-taken
put_in-requires-clause-taken c =
    let front : c.split_at_mut-list.result.0.now ≡ take c.take_all_out-many.result c.take_all_out-many.new.list = c.split_at_mut-list.ensures.front in
    rw (front, c.places.ensures) (taken_front c.take_all_out-many.ensures.taken (omega (arith, taken_few c.take_all_out-many.ensures.taken, c.take_all_out-many.auto.list, c.requires.list)))

pub returns-clause-between : goal.returns-clause-between
returns-clause-between c =
    let g = c.args.graph.now in
    let before = c.requires.between.1 in
    let all = c.take_all_out-many.ensures in
    let back = c.put_in.ensures in
    let list = c.split_at_mut-list.result.0.now in
    let front : list ≡ take c.take_all_out-many.result c.take_all_out-many.new.list = c.split_at_mut-list.ensures.front in
    let room : c.take_all_out-many.result ≤ length c.take_all_out-many.new.list = omega (arith, taken_few all.taken, c.take_all_out-many.auto.list, c.requires.list) in
    let taken : Taken g c.args.partition.now.parts.now c.take_all_out-many.new.sizes list c.take_all_out-many.new.out (length list) =
    subst (λ (l : List ℕ). Taken g c.args.partition.now.parts.now c.take_all_out-many.new.sizes l c.take_all_out-many.new.out (length l)) (sym front) (taken_front all.taken room) in
    let t = subst (λ (k : Game). Parting k c.args.partition.now.parts.now list c.put_in.new.partition.parts.now c.args.count × Sized k c.put_in.new.partition.parts.now c.put_in.new.partition.out.now c.put_in.new.partition.sizes.now × Named k c.put_in.new.partition.parts.now c.put_in.result.0 × Fresh k c.put_in.new.partition.parts.now c.put_in.new.fresh c.args.count c.put_in.result.1)
    c.places.ensures (back.parting, back.sized, back.named, back.fresh) in
    let long : length c.put_in.new.partition.parts.now ≡ length g = omega (arith, c.put_in.ensures.still.parts_long, before.in_parts.long) in
    rw c.put_in.ensures.same.set_long
    (between before taken (came_front g c.args.fresh.now c.take_all_out-many.new.out before.fresh.few all.came) (which_front g c.args.fresh.now c.take_all_out-many.new.out before.fresh.few all.which) t.0 long t.1 back.none_out t.2 t.3)
