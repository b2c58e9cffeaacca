use Rattle.endless.proofs.Scans.{Filled}
use Rattle.endless.proofs.bits.fill.Given as goal

abbrev pub invariant-loop-word : goal.invariant-loop-word
invariant-loop-word l = Filled l.set l.n l.word-index l.left
