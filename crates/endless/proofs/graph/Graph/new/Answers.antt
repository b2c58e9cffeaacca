use Rattle.std.proofs.Common.{length, arith}
use Rattle.endless.specs.Graph.{joined, positions}
use Rattle.std.proofs.lemmas.List.{length-map}
use Rattle.endless.proofs.Preds.{ready, sums_fit}
use Rattle.endless.proofs.graph.Graph.new.Goals as goal

pub sum_up-requires : goal.sum_up-requires
sum_up-requires c =
    sums_fit c.args.places (positions c.count_entering.new.counts) (length c.count_entering.new.counts) (omega arith)
    c.count_entering.ensures

pub list_sources-requires : goal.list_sources-requires
list_sources-requires c =
    let long = length-map c.sum_up.new.counts joined in
    ready c.args.places (positions c.count_entering.new.counts) (positions c.sum_up.new.counts) c.args.preds.now
    (omega arith) c.requires.preds c.count_entering.ensures (λ m h. c.sum_up.ensures m (omega arith))
