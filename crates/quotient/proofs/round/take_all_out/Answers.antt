use Rattle.std.proofs.Common.{arith}
use Rattle.quotient.proofs.Takings.{takings_none, takings_more}
use Rattle.quotient.proofs.round.take_all_out.Goals as goal

pub loop-place-init : goal.loop-place-init
loop-place-init c = takings_none _ _ c.requires.sized c.requires.none_out

pub loop-place-preserved : goal.loop-place-preserved
loop-place-preserved c = takings_more c.loop-place.invariant c.take_out-many.ensures.taken c.take_out-many.ensures.came c.take_out-many.ensures.which c.take_out-many.ensures.kept

pub returns-clause-came : goal.returns-clause-came
returns-clause-came c = λ n j h may. c.loop-place.invariant.came n j (omega arith) may

pub returns-clause-which : goal.returns-clause-which
returns-clause-which c = λ n x. let t = c.loop-place.invariant.which n x in (t.0, omega (arith, t.1), t.2)
