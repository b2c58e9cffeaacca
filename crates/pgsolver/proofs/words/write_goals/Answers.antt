use Rattle.std.proofs.Common.{◌≡◌, Some, get_or, subst, rules}
use Rattle.pgsolver.specs.Table.{Finds}
use Rattle.pgsolver.proofs.Writes.{gone_more, gone_all}
use Rattle.pgsolver.proofs.words.write_goals.Goals as goal

pub returns : goal.returns
returns c = gone_all _ _ _ _ _ c.loop-goal.invariant c.loop-goal-test.false

pub loop-goal-preserved : goal.loop-goal-preserved
loop-goal-preserved c =
    let x = get_or c.args.goals.now c.loop-goal.goal-index 0 in
    let found : c.find.result ≡ Some c.in_ok-place.place = search rules in
    let t = subst (Finds c.args.places.now x) found c.find.ensures in
    gone_more _ _ _ _ _ _ c.loop-goal.invariant c.loop-goal-test.true t.0 t.1 _ c.in_ok-push.ensures.items
