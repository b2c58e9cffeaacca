use Rattle.std.proofs.Common.{length, ap, arith}
use Rattle.endless.specs.Bits.{members}
use Rattle.endless.proofs.Recounting.{whole_part}
use Rattle.endless.proofs.layout.solve_within.Goals as goal

pub count_ways-requires-clause-inside : goal.count_ways-requires-clause-inside
count_ways-requires-clause-inside c = λ n x. omega (arith, c.requires.subgame.places n x, ap length c.lay_out-graph.ensures.is)

pub count_ways-requires-clause-part : goal.count_ways-requires-clause-part
count_ways-requires-clause-part c = (members c.args.set.now, whole_part c.args.set.now)

pub solve-requires-clause-escapes : goal.solve-requires-clause-escapes
solve-requires-clause-escapes c = rw c.copy.ensures (c.count_ways.ensures (members c.args.set.now) (whole_part c.args.set.now)).counted
