use Rattle.std.proofs.Common.{◌≡◌, ℕ, ◌<◌, ◌≤◌, List, [], length, get_or, set, arith}
use Rattle.std.proofs.lemmas.List.{length-map}
use Rattle.endless.specs.Graph.{joined, positions, Filling, Room}
use Rattle.endless.proofs.PositionLaws.{position_is, positions_set}
use Rattle.endless.proofs.Lists.{Enters, enters_some, enters_within, enters_more, enters_all}
use Rattle.endless.proofs.graph.enter.Goals as goal

-- the position that is read is above 0, and within the words for predecessors
at_within : (targets : List ℕ) (v : ℕ) (ends₀ : List (List ℕ)) (preds₀ : List ℕ) (k : ℕ) (ends : List (List ℕ)) (preds : List ℕ) (at : ℕ) → Enters targets v (positions ends₀) preds₀ k (positions ends) preds
    → at ≡ joined (get_or ends (get_or targets k 0) []) → k < length targets → length ends ≡ length ends₀ → length preds ≡ length preds₀
    → (f : ℕ → ℕ) (n : ℕ) (D : ℕ → List ℕ) → Filling f n (positions ends₀) preds₀ D → Room f n targets (positions ends₀) preds₀ D → (0 < at) × (at ≤ length preds)
at_within targets v ends₀ preds₀ k ends preds at inv is h long-e long-p f n D fill room =
    let long : length (positions ends) ≡ length (positions ends₀) = omega (arith, length-map ends₀ joined, length-map ends joined) in
    let some = enters_some targets v (positions ends₀) preds₀ k (positions ends) preds inv h long long-p f n D fill room in
    let most = enters_within targets v (positions ends₀) preds₀ k (positions ends) preds inv h long long-p f n D fill room in
    (omega (arith, position_is ends (get_or targets k 0) is), omega (arith, position_is ends (get_or targets k 0) is))

pub overflow_sub-at : goal.overflow_sub-at
overflow_sub-at c =
    let t = at_within _ c.args.place c.args.ends.now _ _ c.loop-target.ends _ _ c.loop-target.invariant c.position-at.ensures c.loop-target-test.true (omega arith) (omega arith)
    c.requires.0 c.requires.1 c.requires.2 c.requires.3 c.requires.4 in
    omega (arith, t.0)

pub offset_bounds-preds-at : goal.offset_bounds-preds-at
offset_bounds-preds-at c =
    let t = at_within _ c.args.place c.args.ends.now _ _ c.loop-target.ends _ _ c.loop-target.invariant c.position-at.ensures c.loop-target-test.true (omega arith) (omega arith)
    c.requires.0 c.requires.1 c.requires.2 c.requires.3 c.requires.4 in
    omega (arith, t.0, t.1)

pub bounds-preds-at : goal.bounds-preds-at
bounds-preds-at c =
    let t = at_within _ c.args.place c.args.ends.now _ _ c.loop-target.ends _ _ c.loop-target.invariant c.position-at.ensures c.loop-target-test.true (omega arith) (omega arith)
    c.requires.0 c.requires.1 c.requires.2 c.requires.3 c.requires.4 in
    omega (arith, t.0, t.1)

pub loop-target-preserved : goal.loop-target-preserved
loop-target-preserved c =
    let target = get_or c.args.targets.now c.loop-target.target-index 0 in
    enters_more c.args.targets.now c.args.place (positions c.args.ends.now) c.args.preds.now c.loop-target.target-index
    (positions c.loop-target.ends) c.loop-target.preds c.loop-target.invariant c.loop-target-test.true
    (omega (arith, length-map c.args.ends.now joined, length-map c.loop-target.ends joined))
    (omega arith)
    c.position-at.result (positions (set c.loop-target.ends target c.halves.result)) (position_is c.loop-target.ends target c.position-at.ensures)
    (positions_set c.loop-target.ends target c.halves.result c.halves.ensures)

pub returns : goal.returns
returns c =
    enters_all c.args.targets.now c.args.place (positions c.args.ends.now) c.args.preds.now c.loop-target.target-index
    (positions c.loop-target.ends) c.loop-target.preds c.loop-target.invariant c.loop-target-test.false
