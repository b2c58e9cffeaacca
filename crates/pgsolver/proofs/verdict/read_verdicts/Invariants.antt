use Rattle.std.proofs.Common.{length, vec_items}
use Rattle.pgsolver.proofs.Verdicts.{LeftVerdicts}
use Rattle.pgsolver.proofs.verdict.read_verdicts.Given as goal

abbrev pub invariant-loop-here : goal.invariant-loop-here
invariant-loop-here l = LeftVerdicts l.text (vec_items l.verdicts) l.rest

abbrev pub decreases-loop-here : goal.decreases-loop-here
decreases-loop-here l = length l.rest
