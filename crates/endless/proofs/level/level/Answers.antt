use Rattle.endless.specs.Bits.{members}
use Rattle.endless.proofs.Recounting.{whole_part}
use Rattle.endless.proofs.level.level.Goals as goal

pub count_ways-requires-clause-part : goal.count_ways-requires-clause-part
count_ways-requires-clause-part c = (members c.args.own.now, whole_part c.args.own.now)

pub level_by_parts-requires-clause-escapes : goal.level_by_parts-requires-clause-escapes
level_by_parts-requires-clause-escapes c = (c.count_ways.ensures (members c.args.own.now) (whole_part c.args.own.now)).counted
