use Rattle.std.proofs.Common.{sym, subst, arith}
use Rattle.endless.specs.Says.{side}
use Rattle.endless.proofs.Places.{side_below}
use Rattle.moves.specs.Marking.{StaysIs}
use Rattle.moves.proofs.solved.Solved.stays.Goals as goal

pub returns-in_err-winner : goal.returns-in_err-winner
returns-in_err-winner c =
    let s = c.args.self.now in
    subst (StaysIs s.places.now (side s.answer.now) c.args.place c.args.to) (sym c.from_residual.ensures) (λ e f. omega (arith, c.in_err-winner.ensures, side_below s.reads c.args.place, e))
