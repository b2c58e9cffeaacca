use Rattle.std.proofs.Common.{arith}
use Rattle.endless.proofs.Scans.{lowest_none, lowest_is, lowest_lt}
use Rattle.endless.proofs.bits.lowest.Goals as goal

pub returns-then-high-eq0 : goal.returns-then-high-eq0
returns-then-high-eq0 c = lowest_none c.args.word c.args.from c.if-high-eq0.true

pub returns-else-high-eq0 : goal.returns-else-high-eq0
returns-else-high-eq0 c = (lowest_lt c.args.word c.args.from (omega arith) c.if-high-eq0.false, lowest_is c.args.word c.args.from (omega arith) c.if-high-eq0.false)
