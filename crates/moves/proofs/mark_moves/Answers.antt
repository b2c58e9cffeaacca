use Rattle.std.proofs.Common.{◌≡◌, ◌+◌, ◌*◌, ◌≤◌, length, sym, ap, ◌∙◌, subst, arith}
use Rattle.endless.specs.Games.{Game, Reads}
use Rattle.endless.specs.Graph.{edges}
use Rattle.endless.specs.View.{words_of}
use Rattle.endless.specs.Layout.{width}
use Rattle.moves.specs.Moves.{Marked}
use Rattle.moves.proofs.Lists.{words_long, edges_many}
use Rattle.moves.proofs.mark_moves.Goals as goal

pub split_at_mut-from-requires : goal.split_at_mut-from-requires
split_at_mut-from-requires c =
    omega (arith, c.requires.lent, ap length c.requires.game.is, words_long c.args.game, c.len-places.ensures.len, c.move_count-moves.ensures, c.split_at_mut-answer.ensures.back_len)

pub split_at_mut-to-requires : goal.split_at_mut-to-requires
split_at_mut-to-requires c =
    omega (
      arith,
      c.requires.lent,
      ap length c.requires.game.is,
      words_long c.args.game,
      c.len-places.ensures.len,
      c.move_count-moves.ensures,
      c.split_at_mut-answer.ensures.back_len,
      c.split_at_mut-from.ensures.back_len,
    )

pub split_at_mut-starts-requires : goal.split_at_mut-starts-requires
split_at_mut-starts-requires c =
    omega (
      arith,
      c.requires.lent,
      ap length c.requires.game.is,
      words_long c.args.game,
      c.len-places.ensures.len,
      c.move_count-moves.ensures,
      c.split_at_mut-answer.ensures.back_len,
      c.split_at_mut-from.ensures.back_len,
      c.split_at_mut-to.ensures.back_len,
    )

pub answer_to-requires-clause-lent : goal.answer_to-requires-clause-lent
answer_to-requires-clause-lent c =
    omega (
      arith,
      c.requires.lent,
      ap length c.requires.game.is,
      words_long c.args.game,
      c.len-places.ensures.len,
      c.move_count-moves.ensures,
      c.split_at_mut-answer.ensures.back_len,
      c.split_at_mut-from.ensures.back_len,
      c.split_at_mut-to.ensures.back_len,
      c.split_at_mut-starts.ensures.back_len,
    )

pub mark_solved-requires : goal.mark_solved-requires
mark_solved-requires c =
    let view = c.new-view.ensures in
    let words : length (words_of c.new-view.result) ≡ length c.args.words.now = ap (λ (h : Game). length (words_of h)) view ∙ sym (ap length c.requires.game.is) in
    let sets : 32 * width (length c.new-view.result) ≤ length c.new-view.result + 31 = omega arith in
    record {
      answer = c.answer_to.ensures c.new-view.result (subst (Reads c.args.words.now) (sym view) c.requires.game);
      room = omega (arith, c.requires.room, ap length view, ap edges view);
      lent = omega (
        arith,
        c.requires.lent,
        ap length c.requires.game.is,
        words_long c.args.game,
        edges_many c.requires.game,
        words,
        sets,
        ap length view,
        c.len-places.ensures.len,
        c.move_count-moves.ensures,
        c.split_at_mut-answer.ensures.back_len,
        c.split_at_mut-from.ensures.back_len,
        c.split_at_mut-to.ensures.back_len,
        c.split_at_mut-starts.ensures.back_len,
      );
    }

pub returns-clause-marked : goal.returns-clause-marked
returns-clause-marked c =
    let view = c.new-view.ensures in
    subst (λ (h : Game). Marked h c.mark_solved.new.out) view c.mark_solved.ensures.marked

pub returns-clause-behind : goal.returns-clause-behind
returns-clause-behind c = λ i h.
    let view = c.new-view.ensures in
    c.mark_solved.ensures.behind i (omega (arith, ap length view, ap edges view))
