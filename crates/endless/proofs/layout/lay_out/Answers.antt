use Rattle.std.proofs.Common.{length, ltb, ap, ◌∙◌, arith}
use Rattle.endless.proofs.Preds.{words_length}
use Rattle.endless.proofs.Layouts.{sets_fit}
use Rattle.endless.proofs.layout.lay_out.Goals as goal

pub returns : goal.returns
returns c =
    let is = c.new-graph.ensures ∙ c.new-view.ensures in
    let many = c.len.ensures.len ∙ ap length is in
    record {
      is = is;
      playable = c.len-places.ensures.playable;
      taken = omega (arith, c.move_count-moves.ensures, c.div_ceil.ensures);
      queue = omega arith;
      via = omega arith;
      escapes = omega arith;
      counted = c.count_moves.ensures;
      are = λ j. c.fill.ensures.are j ∙ ap (ltb j) many;
      many = c.fill.ensures.many ∙ many;
      wide = omega (arith, c.div_ceil.ensures);
      rest = omega (arith, c.move_count-moves.ensures, sets_fit c.args.accepted.game c.len-places.ensures.playable, c.args.accepted.enough, c.div_ceil.ensures);
      spare = omega (arith, c.args.accepted.enough, words_length c.args.accepted.game, c.move_count-moves.ensures, c.div_ceil.ensures);
    }
