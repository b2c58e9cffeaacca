use Rattle.std.proofs.Common.{arith}
use Rattle.endless.proofs.Scans.{filled_more, filled_all, size_below}
use Rattle.endless.proofs.bits.fill.Goals as goal

pub loop-word-preserved : goal.loop-word-preserved
loop-word-preserved c =
    filled_more c.loop-word.set c.args.n c.loop-word.word-index c.loop-word.left c.min-here.result c.low_bits.result (omega arith)
    c.min-here.ensures c.low_bits.ensures c.loop-word.invariant

pub returns : goal.returns
returns c =
    let are = filled_all c.loop-word.set c.args.n c.loop-word.word-index c.loop-word.left (omega arith) (omega arith) c.loop-word.invariant in
    record { are = are; many = size_below c.loop-word.set c.args.n (omega arith) are }
