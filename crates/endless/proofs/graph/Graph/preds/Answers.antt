use Rattle.std.proofs.Common.{◌+◌, ◌-◌, length, take, drop, ap, ◌∙◌, ap₂, arith}
use Rattle.endless.specs.Graph.{sources}
use Rattle.endless.proofs.PositionLaws.{position_is, listed_within}
use Rattle.endless.proofs.Sources.{preds_are}
use Rattle.endless.proofs.graph.Graph.preds.Goals as goal

pub offset_bounds-self-inside-from : goal.offset_bounds-self-inside-from
offset_bounds-self-inside-from c =
    let t = listed_within _ c.self.invariant.0 c.self.view_is c.requires c.position-from.ensures c.position-to.ensures in
    omega (arith, t.0, t.1)

pub slice_bounds-result-count : goal.slice_bounds-result-count
slice_bounds-result-count c = (listed_within _ c.self.invariant.0 c.self.view_is c.requires c.position-from.ensures c.position-to.ensures).0

pub slice_bounds-result-start : goal.slice_bounds-result-start
slice_bounds-result-start c =
    let t = listed_within _ c.self.invariant.0 c.self.view_is c.requires c.position-from.ensures c.position-to.ensures in
    omega (arith, t.0, t.1)

pub slice_bounds-result-end : goal.slice_bounds-result-end
slice_bounds-result-end c = (listed_within _ c.self.invariant.0 c.self.view_is c.requires c.position-from.ensures c.position-to.ensures).1

pub returns : goal.returns
returns c = record {
  preds = preds_are c.args.self.now c.args.m _
      (ap₂ (λ a b. take (b - a) (drop a c.self.inside.preds.now)) (position_is _ c.args.m c.position-from.ensures) (position_is _ (c.args.m + 1) c.position-to.ensures)
      ∙ c.self.invariant.0.are c.args.m (omega (arith, ap length c.self.view_is)) ∙ ap (λ g. sources 0 g c.args.m) c.self.view_is);
}
