use Rattle.std.proofs.Common.{sym, arith}
use Rattle.std.proofs.lemmas.Result.{err_from_is_err_and}
use Rattle.pgsolver.proofs.Goals.{goals_first, goals_slip, goals_many, goals_last, goals_more, goals_less}
use Rattle.pgsolver.proofs.node.goals.Goals as goal

pub loop-goals-init : goal.loop-goals-init
loop-goals-init c = goals_first _ _ _ c.new-goals.ensures.items

pub returns-in_err-goal : goal.returns-in_err-goal
returns-in_err-goal c =
    let p = err_from_is_err_and c.from_residual.result c.from_residual.ensures.1 in
    rw (p.1, p.2) (goals_slip _ _ _ _ c.loop-goals.invariant _ c.in_err-goal.ensures)

pub returns-then-used-len-ge-MOST_MOVES : goal.returns-then-used-len-ge-MOST_MOVES
returns-then-used-len-ge-MOST_MOVES c = rw c.at.ensures (goals_many _ _ _ _ c.loop-goals.invariant _ _ c.in_ok-goal.ensures (omega (arith, c.if-used-len-ge-MOST_MOVES.true, c.len.ensures.value)))

pub returns-in_default : goal.returns-in_default
returns-in_default c = goals_last _ _ _ _ c.loop-goals.invariant _ _ c.in_ok-goal.ensures (omega (arith, c.if-used-len-ge-MOST_MOVES.false, c.len.ensures.value)) _ c.in_ok-push.ensures.ok (sym c.in_default.ensures)

pub loop-goals-preserved : goal.loop-goals-preserved
loop-goals-preserved c = goals_more _ _ _ _ c.loop-goals.invariant _ _ c.in_ok-goal.ensures (omega (arith, c.if-used-len-ge-MOST_MOVES.false, c.len.ensures.value)) _ c.in_ok-push.ensures.ok _ (sym c.in-Some.ensures)

pub loop-goals-smaller : goal.loop-goals-smaller
loop-goals-smaller c = goals_less _ _ _ _ c.loop-goals.invariant _ _ c.in_ok-goal.ensures _ (sym c.in-Some.ensures)
