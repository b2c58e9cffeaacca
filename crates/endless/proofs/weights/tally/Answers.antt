use Rattle.std.proofs.Common.{rules, subst, arith}
use Rattle.endless.proofs.Tallies.{Weighed, weighed_start, weighed_index, weighed_fits, weighed_more, weighed_all}
use Rattle.endless.proofs.weights.tally.Goals as goal

pub loop-head-init : goal.loop-head-init
loop-head-init c = weighed_start c.args.game.now _ (search rules)

pub bounds-counts-head : goal.bounds-counts-head
bounds-counts-head c = weighed_index c.args.game.now _ _ c.loop-head.invariant c.in-Some.head _ c.in-Some.ensures.steps (search rules)

pub bounds-counts-head-in-loop-head : goal.bounds-counts-head-in-loop-head
bounds-counts-head-in-loop-head c = weighed_index c.args.game.now _ _ c.loop-head.invariant c.in-Some.head _ c.in-Some.ensures.steps (search rules)

pub overflow_add-counts : goal.overflow_add-counts
overflow_add-counts c =
    let fits = weighed_fits c.args.game.now _ _ c.loop-head.invariant c.in-Some.head _ c.in-Some.ensures.steps (search rules) in
    omega arith

pub loop-head-preserved : goal.loop-head-preserved
loop-head-preserved c = weighed_more c.args.game.now _ _ c.loop-head.invariant c.in-Some.head _ c.in-Some.ensures.steps (search rules)

pub returns : goal.returns
returns c = weighed_all c.args.game.now _ (subst (λ h. Weighed c.args.game.now h c.loop-head.counts) c.in-None.ensures.steps.0 c.loop-head.invariant)
