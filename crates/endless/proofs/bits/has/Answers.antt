use Rattle.endless.proofs.bits.has.Goals as goal
use Rattle.endless.proofs.SetLaws.{has_is}

pub returns : goal.returns
returns c = has_is c.args.set.now c.args.i
