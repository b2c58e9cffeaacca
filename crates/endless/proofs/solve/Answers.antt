use Rattle.std.proofs.Common.{length, arith}
use Rattle.std.proofs.lemmas.Result.{err_from_is_err_and}
use Rattle.endless.proofs.Solving.{refused_post, out_full_post, done_post}
use Rattle.endless.proofs.solve.Goals as goal

pub returns-in_err-accepted : goal.returns-in_err-accepted
returns-in_err-accepted c =
    let p = err_from_is_err_and c.from_residual.result c.from_residual.ensures.1 in
    rw (p.1, p.2) (refused_post c.args.words.now (length c.args.work.now) c.args.out.now _ c.in_err-accepted.ensures)

pub returns-in_err-out_room : goal.returns-in_err-out_room
returns-in_err-out_room c =
    let p = err_from_is_err_and c.from_residual-in_err-out_room.result c.from_residual-in_err-out_room.ensures.1 in
    let ok = c.in_ok-accepted.ensures in
    rw (p.1, p.2)
    (out_full_post c.args.words.now (length c.args.work.now) c.args.out.now c.in_ok-accepted.accepted.game ok.0 ok.1
    (omega (arith, c.in_err-out_room.ensures, c.len.ensures.len)))

pub returns : goal.returns
returns c =
    let ok = c.in_ok-accepted.ensures in
    done_post c.args.words.now (length c.args.work.now) c.args.out.now c.solve_game.new.out c.in_ok-accepted.accepted.game ok.0 ok.1
    (omega (arith, c.in_ok-out_room.ensures, c.len.ensures.len)) (omega arith) c.solve_game.ensures.frame c.solve_game.ensures.solves
