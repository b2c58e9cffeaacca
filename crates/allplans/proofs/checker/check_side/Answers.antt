use Rattle.std.proofs.Common.{arith, below_more}
use Rattle.allplans.proofs.checker.check_side.Goals as goal

pub loop-heaviest-preserved : goal.loop-heaviest-preserved
loop-heaviest-preserved c = below_more _ _ c.loop-heaviest.invariant c.in_ok-check_weight.ensures

pub returns : goal.returns
returns c = λ k h. c.loop-heaviest.invariant k (omega arith)
