use Rattle.std.proofs.Common.{◌≡◌, arith}
use Rattle.endless.proofs.Working.{labelled_more}
use Rattle.endless.proofs.attractor.label.Goals as goal

pub loop-i-preserved : goal.loop-i-preserved
loop-i-preserved c = rw c.from.ensures (labelled_more c.args.queue.now c.args.via.now c.args.from c.loop-i.i c.loop-i.auto.i (omega (arith, c.requires.inside c.loop-i.i c.loop-i.auto.i c.loop-i-test.true, c.loop-i.auto.out)) c.loop-i.invariant)

pub returns : goal.returns
returns c = let e : c.loop-i.i ≡ c.args.to = omega (arith, c.loop-i.auto.i-end, c.loop-i-test.false, c.requires.order) in rw (← e) c.loop-i.invariant
