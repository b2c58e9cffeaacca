use Rattle.std.proofs.Common.{sym}
use Rattle.std.proofs.lemmas.Bool.{eqb-true, eqb-false}
use Rattle.std.proofs.lemmas.Result.{err_from_is_err_and}
use Rattle.pgsolver.proofs.Verdicts.{verdicts_first, verdicts_all, verdicts_slip, verdicts_less, verdicts_more}
use Rattle.pgsolver.proofs.verdict.read_verdicts.Goals as goal

pub loop-here-init : goal.loop-here-init
loop-here-init c = verdicts_first _ _ c.new-verdicts.ensures.items

pub returns-then-is_empty : goal.returns-then-is_empty
returns-then-is_empty c = verdicts_all _ _ _ c.loop-here.invariant _ c.skip-here.ensures (eqb-true _ 0 (sym c.if-is_empty.ensures))

pub returns-in_err-verdict : goal.returns-in_err-verdict
returns-in_err-verdict c =
    let p = err_from_is_err_and c.from_residual.result c.from_residual.ensures.1 in
    rw (p.1, p.2) (verdicts_slip _ _ _ c.loop-here.invariant _ c.skip-here.ensures (eqb-false _ 0 (sym c.if-is_empty.ensures)) _ c.in_err-verdict.ensures)

pub loop-here-smaller : goal.loop-here-smaller
loop-here-smaller c = verdicts_less _ _ _ c.loop-here.invariant _ c.skip-here.ensures (eqb-false _ 0 (sym c.if-is_empty.ensures)) _ _ c.in_ok-verdict.ensures

pub loop-here-preserved : goal.loop-here-preserved
loop-here-preserved c = verdicts_more _ _ _ c.loop-here.invariant _ c.skip-here.ensures (eqb-false _ 0 (sym c.if-is_empty.ensures)) _ _ c.in_ok-verdict.ensures _ c.in_ok-push.ensures.items
