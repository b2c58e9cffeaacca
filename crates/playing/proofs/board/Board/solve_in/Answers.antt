use Rattle.std.proofs.Common.{List, ℕ, sym, subst, arith}
use Rattle.endless.specs.Games.{Game, Reads}
use Rattle.playing.specs.Boards.{Answered}
use Rattle.playing.proofs.Boards.{answered_or}
use Rattle.playing.proofs.board.Board.solve_in.Goals as goal

pub returns : goal.returns
returns c =
    answered_or c.args.words.now c.as_slice.result.now c.new.result c.new.ensures.game c.new.ensures.answer
    (subst (λ (o : List ℕ). (g : Game) × (Reads c.args.words.now g × Answered g o)) (sym c.as_slice.ensures.value) (rw c.in-Some.is at c.in_ok-answer.ensures))
    (λ none g reads. none g reads (omega (arith, c.as_mut_slice.ensures.len, c.in_ok-room.ensures.len, (rw (c.copied.ensures, c.first.ensures.value, reads.is) at c.unwrap_or-places.ensures))))
