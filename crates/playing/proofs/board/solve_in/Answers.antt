use Rattle.std.proofs.Common.{◌≡◌, ◌++◌, length, take, drop, sym, subst, arith}
use Rattle.std.proofs.lemmas.Grind.{common_steps}
use Rattle.endless.specs.Games.{Game, Reads}
use Rattle.playing.specs.Boards.{Answered}
use Rattle.playing.proofs.Boards.{solved_or_none}
use Rattle.playing.proofs.board.solve_in.Goals as goal

pub returns-in-Ok : goal.returns-in-Ok
returns-in-Ok c =
    let e : take c.in_ok-answer.answer.len (c.solve.new.out ++ drop (length c.solve.new.out) c.in_ok-answer.answer.items) ≡ c.solve.new.out = grind (arith, common_steps) in
    subst (λ o. (g : Game) × (Reads c.args.words.now g × Answered g o)) (sym e)
    (rw c.in-Ok.is at (solved_or_none c.solve.result c.solve.ensures (omega (arith, c.as_mut_slice-2.ensures.len, c.in_ok-work.ensures.len)) (omega (arith, c.as_mut_slice.ensures.len, c.in_ok-answer.ensures.len)) c.solve.auto.out))
