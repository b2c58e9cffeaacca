use Rattle.std.proofs.Common.{rules, length, sym, ap, arith}
use Rattle.std.proofs.lemmas.Bool.{leb-true}
use Rattle.endless.specs.Games.{Reads}
use Rattle.moves.proofs.Lists.{words_long}
use Rattle.moves.proofs.Calls.{done_post}
use Rattle.moves.proofs.winning_moves.Goals as goal

pub overflow_add-len : goal.overflow_add-len
overflow_add-len c =
    let reads : Reads c.args.words.now c.in_ok-game.game = search rules in
    omega (arith, ap length reads.is, words_long c.in_ok-game.game, c.len.ensures.len, c.move_count.ensures)

pub returns : goal.returns
returns c =
    let reads : Reads c.args.words.now c.in_ok-game.game = search rules in
    done_post (leb-true _ _ (sym c.if-not-is_enough.ensures)) c.in_ok-game.game reads (omega (arith, c.len.ensures.len, c.move_count.ensures)) (omega arith) c.mark_moves.ensures.marked c.mark_moves.ensures.behind
