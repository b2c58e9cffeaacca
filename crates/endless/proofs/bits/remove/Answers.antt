use Rattle.endless.proofs.bits.remove.Goals as goal
use Rattle.endless.proofs.SetLaws.{removed}

pub returns : goal.returns
returns c = removed c.args.set.now c.args.i c.requires
