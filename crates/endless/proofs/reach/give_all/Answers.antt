use Rattle.std.proofs.Common.{ap, ◌∙◌, arith}
use Rattle.endless.specs.Listed.{members_left}
use Rattle.endless.proofs.Reaching.{handed_none, handed_first, handed_more, handed_all}
use Rattle.endless.proofs.reach.give_all.Goals as goal

pub loop-place-init : goal.loop-place-init
loop-place-init c =
    handed_none c.args.set.now c.args.out.now (ap members_left c.into_iter-place-iterator.ensures.into_iter_gives ∙ c.iter-place-items.ensures.left)

pub give-requires-clause-place : goal.give-requires-clause-place
give-requires-clause-place c = c.requires.inside _ (handed_first c.loop-place.invariant c.in-Some.ensures.steps)

pub loop-place-preserved : goal.loop-place-preserved
loop-place-preserved c =
    let step = c.in-Some.ensures.steps in
    let here = c.requires.inside _ (handed_first c.loop-place.invariant step) in
    handed_more c.loop-place.invariant step (omega (arith, here, c.requires.answers)) c.give.ensures

pub returns : goal.returns
returns c = handed_all c.loop-place.invariant c.in-None.ensures.steps.0
