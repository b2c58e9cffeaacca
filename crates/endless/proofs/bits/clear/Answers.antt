use Rattle.endless.proofs.SetLaws.{size_cleared}
use Rattle.endless.proofs.bits.clear.Goals as goal

pub returns : goal.returns
returns c = size_cleared c.fill.new.self _ (c.fill.ensures.after (λ y e. e))
