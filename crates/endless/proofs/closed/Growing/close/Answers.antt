use Rattle.std.proofs.Common.{ℕ, ◌≡◌, ◌≤◌, List, length, ap, subst, arith}
use Rattle.endless.specs.Bits.{size}
use Rattle.endless.proofs.MovesAt.{move_inside}
use Rattle.endless.proofs.Parts.{listing_few, going_none, going_more, going_all}
use Rattle.endless.proofs.closed.Growing.close.Goals as goal

pub loop-head-init : goal.loop-head-init
loop-head-init c = going_none c.args.self.now c.requires.lists

pub offset_bounds-self-head : goal.offset_bounds-self-head
offset_bounds-self-head c = omega (arith, listing_few c.loop-head.self.spacious.same c.loop-head.invariant.grown.lists, c.loop-head.self.spacious.room)

pub bounds-self-head : goal.bounds-self-head
bounds-self-head c = omega (arith, listing_few c.loop-head.self.spacious.same c.loop-head.invariant.grown.lists, c.loop-head.self.spacious.room)

pub take_all-requires-clause-inside : goal.take_all-requires-clause-inside
take_all-requires-clause-inside c =
    let long : length c.loop-head.self.set.now ≡ length c.args.self.now.set.now = ap (λ (t : List ℕ). length t) c.loop-head.invariant.grown.same.set in
    λ k h. omega (arith, move_inside c.moves.ensures.playable _ c.moves.result.now c.moves.ensures.moves k h, c.args.self.now.sets, long)

pub loop-head-smaller : goal.loop-head-smaller
loop-head-smaller c =
    let few : c.loop-head.self.count ≤ size c.args.self.now.set.now = subst (λ (t : List ℕ). c.loop-head.self.count ≤ size t) c.loop-head.invariant.grown.same.set (listing_few c.loop-head.self.spacious.same c.loop-head.invariant.grown.lists) in
    omega (arith, few)

pub loop-head-preserved : goal.loop-head-preserved
loop-head-preserved c = going_more c.loop-head.invariant (omega arith) (omega arith) c.moves.ensures.moves c.take_all.ensures.grown c.take_all.ensures.holds

pub returns-clause-closed : goal.returns-clause-closed
returns-clause-closed c = going_all c.loop-head.invariant (omega arith)
