use Rattle.std.proofs.Common.{length, ◌∷◌, [], get_or, sym, ap, ◌∙◌, arith}
use Rattle.std.proofs.lemmas.List.{ext_get_or}
use Rattle.endless.specs.Graph.{positions}
use Rattle.endless.proofs.PositionLaws.{positions_none}
use Rattle.endless.proofs.MovesAt.{move_inside}
use Rattle.endless.proofs.Preds.{counting_start, counting_fits, counting_more}
use Rattle.endless.proofs.graph.count_entering.Goals as goal

pub loop-v-init : goal.loop-v-init
loop-v-init c =
    counting_start c.args.places.now (positions c.fill.new.self)
    (λ m. ap (λ t. get_or (positions t) m 0) (c.fill.ensures.after (λ y e. sym (ext_get_or 0 (0 ∷ 0 ∷ []) y (sym e.long) (λ k l. sym (e.at k 0 0 l))))) ∙ positions_none (length c.args.counts.now) m)

pub count_moves-requires-clause-within : goal.count_moves-requires-clause-within
count_moves-requires-clause-within c = λ k h. omega (arith, move_inside c.moves.ensures.playable c.loop-v.v c.moves.result.now c.moves.ensures.moves k h)

pub count_moves-requires-clause-fits : goal.count_moves-requires-clause-fits
count_moves-requires-clause-fits c =
    counting_fits c.args.places.now c.loop-v.v (positions c.loop-v.counts) c.loop-v.invariant (omega arith) c.moves.result.now
    c.moves.ensures.moves c.requires.fits

pub loop-v-preserved : goal.loop-v-preserved
loop-v-preserved c =
    counting_more c.args.places.now c.loop-v.v (positions c.loop-v.counts) c.loop-v.invariant (omega arith) c.moves.result.now
    c.moves.ensures.moves (positions c.count_moves.new.counts) c.count_moves.ensures
