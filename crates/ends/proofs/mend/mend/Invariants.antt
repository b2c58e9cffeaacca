use Rattle.std.proofs.Common.{get_or}
use Rattle.ends.proofs.Mending.{Mending}
use Rattle.ends.proofs.mend.mend.Given as goal

abbrev pub invariant-loop-index : goal.invariant-loop-index
invariant-loop-index l = Mending l.words l.made (get_or l.words 0 0) l.index l.at l.to
