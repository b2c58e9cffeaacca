use Rattle.std.proofs.Common.{◌≡◌, ◌∙◌, arith}
use Rattle.std.proofs.lemmas.Grind.{common_steps}
use Rattle.endless.specs.Games.{whose}
use Rattle.endless.specs.Says.{side}
use Rattle.pgsolver.proofs.Solutions.{move_at, no_move}
use Rattle.pgsolver.proofs.solution.Solution.winners_move.Goals as goal

pub returns-in_err-to : goal.returns-in_err-to
returns-in_err-to c = absurd (omega (arith, c.in_err-to.ensures, c.args.self.each, c.args.self.answered))

pub returns-in_err-get : goal.returns-in_err-get
returns-in_err-get c =
    let e : whose c.args.self.game.now c.args.n ≡ side c.args.self.answer.now c.args.n = grind (arith, common_steps) in
    c.from_residual-in_err-get.ensures ∙ no_move c.args.self.named.now c.args.self.game.now c.args.self.answer.now c.args.n c.in_ok-to.to e c.in_ok-to.ensures c.in_err-get.ensures.lookup.3

pub returns : goal.returns
returns c =
    let e : whose c.args.self.game.now c.args.n ≡ side c.args.self.answer.now c.args.n = grind (arith, common_steps) in
    let at = c.in_ok-get.ensures.lookup.3 in
    move_at c.args.self.named.now c.args.self.game.now c.args.self.answer.now c.args.n c.in_ok-to.to e c.in_ok-to.ensures c.in_ok-get.field-0.now at.0 (at.1 c.in_ok-get.field-0.now)
