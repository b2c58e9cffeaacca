use Rattle.pgsolver.proofs.Looking.{Found}
use Rattle.pgsolver.proofs.weights.firsts.Given as goal

abbrev pub invariant-loop-n : goal.invariant-loop-n
invariant-loop-n l = Found l.priorities l.n l.firsts
