use Rattle.std.proofs.Common.{◌-◌, length, drop, arith}
use Rattle.endless.specs.Graph.{joined, positions, entering, sources}
use Rattle.std.proofs.lemmas.List.{length-map}
use Rattle.endless.proofs.Preds.{listing_start, listing_room, listing_more, listing_all}
use Rattle.endless.proofs.graph.list_sources.Goals as goal

pub loop-v-init : goal.loop-v-init
loop-v-init c =
    listing_start c.args.places.now c.len-v.result (positions c.args.ends.now) c.args.preds.now c.len-v.ensures.playable c.len-v.ensures.len
    c.requires

pub enter-requires : goal.enter-requires
enter-requires c = (
  entering c.args.places.now,
  length c.args.places.now,
  sources c.loop-v.v (drop c.loop-v.v c.args.places.now),
  c.loop-v.invariant,
  listing_room c.args.places.now c.loop-v.v (c.loop-v.v - 1) (positions c.loop-v.ends) c.loop-v.preds (omega arith) (omega arith)
      c.moves.result.now c.moves.ensures.moves c.moves.ensures.playable
      (omega (arith, c.requires.long, length-map c.args.ends.now joined, length-map c.loop-v.ends joined))
      (omega (arith, c.requires.top)),
)

pub loop-v-preserved : goal.loop-v-preserved
loop-v-preserved c =
    listing_more c.args.places.now c.loop-v.v (c.loop-v.v - 1) (positions c.loop-v.ends) c.loop-v.preds (omega arith) (omega arith)
    c.moves.result.now c.moves.ensures.moves c.moves.ensures.playable
    (omega (arith, c.requires.long, length-map c.args.ends.now joined, length-map c.loop-v.ends joined))
    (omega (arith, c.requires.top)) c.loop-v.invariant (positions c.enter.new.ends) c.enter.new.preds c.enter.ensures

pub returns : goal.returns
returns c =
    listing_all c.args.places.now c.loop-v.v (positions c.loop-v.ends) c.loop-v.preds c.loop-v.invariant (omega arith)
    (omega (arith, c.requires.long, length-map c.args.ends.now joined, length-map c.loop-v.ends joined))
    (omega (arith, c.requires.top))
