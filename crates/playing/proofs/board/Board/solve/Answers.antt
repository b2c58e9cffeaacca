use Rattle.playing.proofs.Boards.{answered_or, held}
use Rattle.playing.proofs.board.Board.solve.Goals as goal

pub returns : goal.returns
returns c = answered_or c.args.words.now c.solve.new.answer c.new.result c.new.ensures.game c.new.ensures.answer (held c.solve.result c.in_ok-ok.ensures.variant c.solve.ensures) (λ n. tt)
