use Rattle.std.proofs.Common.{arith}
use Rattle.endless.proofs.Parts.{grown_none, over_more}
use Rattle.endless.proofs.closed.Growing.take_all.Goals as goal

pub loop-place-init : goal.loop-place-init
loop-place-init c = record { grown = grown_none c.args.self.now c.requires.lists; holds = λ k h x. absurd (omega arith) }

pub loop-place-preserved : goal.loop-place-preserved
loop-place-preserved c = over_more c.loop-place.invariant (omega arith) c.take.ensures.grown c.take.ensures.holds
