use Rattle.std.proofs.Common.{length, arith}
use Rattle.std.proofs.lemmas.Result.{err_from_is_err_and}
use Rattle.endless.proofs.Checks.{wrong_checked, right_checked, solves_answer}
use Rattle.endless.proofs.verdict.check.Goals as goal

pub returns-in_err-check_game : goal.returns-in_err-check_game
returns-in_err-check_game c =
    let p = err_from_is_err_and c.from_residual-in_err-check_game.result c.from_residual-in_err-check_game.ensures.1 in
    rw (p.1, p.2) (wrong_checked c.args.words.now (length c.args.work.now) c.in_ok-accepted.accepted c.args.answer.now c.in_ok-accepted.ensures c.in_err-check_game.field-0.0 c.in_err-check_game.ensures)

pub returns : goal.returns
returns c =
    let a = c.in_ok-accepted.ensures in
    right_checked c.args.words.now (length c.args.work.now) c.in_ok-accepted.accepted c.args.answer.now a
    (solves_answer a.1 (omega (arith, c.in_ok-out_room.ensures, c.len.ensures.len)) c.in_ok-check_game.ensures)
