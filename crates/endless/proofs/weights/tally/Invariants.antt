use Rattle.endless.specs.Heads.{heads_in}
use Rattle.endless.proofs.Tallies.{Weighed}
use Rattle.endless.proofs.weights.tally.Given as goal

abbrev pub invariant-loop-head : goal.invariant-loop-head
invariant-loop-head l = Weighed l.game (heads_in l.head-iterator.left l.head-iterator.words.now) l.counts
