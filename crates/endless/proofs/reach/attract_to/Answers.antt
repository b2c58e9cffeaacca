use Rattle.std.proofs.Common.{length, refl, arith}
use Rattle.std.proofs.lemmas.Result.{err_from_is_err_and}
use Rattle.endless.proofs.Solving.{behind_same}
use Rattle.endless.proofs.Reaching.{reached, unaccepted}
use Rattle.endless.proofs.reach.attract_to.Goals as goal

pub returns-in_err-accepted : goal.returns-in_err-accepted
returns-in_err-accepted c =
    let p = err_from_is_err_and c.from_residual.result c.from_residual.ensures.1 in
    rw (p.1, p.2) (unaccepted _ c.in_err-accepted.ensures)

pub returns-in_err-target : goal.returns-in_err-target
returns-in_err-target c =
    let t = c.in_ok-accepted.ensures in
    let p = err_from_is_err_and c.from_residual-in_err-target.result c.from_residual-in_err-target.ensures.1 in
    rw (p.1, p.2, c.in_err-target.ensures.0) (reached t.0 (λ e. cc) (c.in_ok-accepted.accepted.game, t.1, c.in_err-target.ensures.1, refl))

pub returns-in_err-out_room : goal.returns-in_err-out_room
returns-in_err-out_room c =
    let t = c.in_ok-accepted.ensures in
    let p = err_from_is_err_and c.from_residual-in_err-out_room.result c.from_residual-in_err-out_room.ensures.1 in
    rw (p.1, p.2) (reached t.0 (λ e. cc) (c.in_ok-accepted.accepted.game, t.1, omega arith, omega (arith, c.in_err-out_room.ensures), refl))

pub returns : goal.returns
returns c =
    let t = c.in_ok-accepted.ensures in
    let g = c.in_ok-accepted.accepted.game in
    rw (← c.in_ok-target.ensures.0) (reached t.0 (λ e. cc) (
      g,
      t.1,
      omega arith,
      omega (arith, c.in_ok-out_room.ensures),
      c.divide_game.ensures.reaches,
      behind_same c.args.out.now c.divide_game.new.out (length g) (omega arith) c.divide_game.ensures.frame,
    ))
