use Rattle.std.proofs.Common.{rules}
use Rattle.distance.proofs.spread.spread.Goals as goal

pub returns : goal.returns
returns c = λ target before st. let t = c.spread.ensures.measures target before st in search rules
