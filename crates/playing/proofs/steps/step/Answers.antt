use Rattle.std.specs.Prelude.{All}
use Rattle.std.proofs.Common.{◌<◌, length, get_or, subst, sym}
use Rattle.endless.specs.Sides.{number}
use Rattle.playing.specs.Boards.{Stepped}
use Rattle.playing.proofs.Boards.{stepped_choice}
use Rattle.playing.proofs.steps.step.Goals as goal

pub returns-else-goes_by_plan : goal.returns-else-goes_by_plan
returns-else-goes_by_plan c =
    let b = c.args.board.now in
    let within = subst (All (λ m. m < length b.game)) c.moves.ensures.are c.moves.ensures.inside in
    subst (λ l. Stepped b.game b.answer (number c.args.side) c.args.place c.args.choice (get_or l c.args.choice 0)) (sym c.moves.ensures.are)
    (stepped_choice c.requires.answered c.args.side c.args.place c.args.choice c.requires.within (λ by. absurd (let no = c.if-goes_by_plan.ensures.1 by in cc)) c.requires.listed within)
