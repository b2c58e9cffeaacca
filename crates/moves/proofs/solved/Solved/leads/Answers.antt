use Rattle.std.proofs.Common.{sym, arith}
use Rattle.std.proofs.lemmas.Bool.{ne_eqb}
use Rattle.endless.specs.Games.{whose}
use Rattle.endless.specs.Says.{side}
use Rattle.endless.proofs.Places.{side_below}
use Rattle.moves.proofs.solved.Solved.leads.Goals as goal

pub returns-in_default : goal.returns-in_default
returns-in_default c =
    let s = c.args.self.now in
    sym (ne_eqb (whose s.places.now c.args.place) (side s.answer.now c.args.place) (λ e. omega (arith, c.in_default.ensures, side_below s.reads c.args.place)))
