use Rattle.endless.proofs.bits.insert.Goals as goal
use Rattle.endless.proofs.SetLaws.{inserted}

pub returns : goal.returns
returns c = inserted c.args.set.now c.args.i c.requires
