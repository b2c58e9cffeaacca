use Rattle.std.proofs.Common.{arith, rules}
use Rattle.endless.specs.Sets.{whole}
use Rattle.endless.specs.Bits.{members}
use Rattle.endless.proofs.Tests.{T_true}
use Rattle.endless.proofs.Readers.{number_below}
use Rattle.endless.proofs.Sets.{whole_in}
use Rattle.endless.proofs.Removed.{removed_within}
use Rattle.endless.proofs.Ways.{counted_open}
use Rattle.endless.proofs.Recounting.{whole_part}
use Rattle.endless.proofs.Layouts.{whole_filled, filled_subgame}
use Rattle.endless.proofs.Reaching.{Only, only_starts, only_counted, divided}
use Rattle.endless.proofs.reach.divide.Goals as goal

pub count_ways-requires-clause-part : goal.count_ways-requires-clause-part
count_ways-requires-clause-part c = (members c.args.left.now, whole_part c.args.left.now)

pub attract-requires-clause-counted : goal.attract-requires-clause-counted
attract-requires-clause-counted c =
    let r = c.requires in
    omega (arith, c.len-all.ensures.len, r.fresh.many, c.remove.ensures.shrinks (T_true _ (whole_filled c.args.graph.now c.args.left.now r.fresh.are c.args.target (whole_in c.args.graph.now c.args.target r.target))))

pub attract-requires-clause-escaping : goal.attract-requires-clause-escaping
attract-requires-clause-escaping c =
    let left = c.args.left.now in
    let counted = (c.count_ways.ensures (members left) (whole_part left)).counted in
    let inside = removed_within left c.args.target c.remove.new.set c.remove.ensures in
    counted_open c.args.graph.now (members left) (members c.remove.new.set) c.count_ways.new.escapes (filled_subgame c.args.graph.now left c.requires.fresh.are c.requires.playable) inside (λ n x. counted n (inside n x))

pub returns : goal.returns
returns c =
    let r = c.requires in
    let counted = (c.count_ways.ensures (members c.args.left.now) (whole_part c.args.left.now)).counted in
    let attracts = c.attract.ensures.attracts (whole c.args.graph.now) (Only c.args.graph.now c.args.target) (only_starts r.fresh r.target c.remove.ensures) (only_counted c.count_ways.new.escapes r.fresh c.remove.ensures counted) in
    let d = divided r.playable (number_below c.args.winner) r.target r.fresh c.give.ensures c.remove.ensures c.attract.ensures.moved c.attract.ensures.frame attracts c.other.ensures c.give_all.ensures (omega arith) (omega arith) in
    record { same = search rules; frame = d.0; reaches = d.1 }
