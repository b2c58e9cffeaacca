use Rattle.std.proofs.Common.{T, refl, ap, ◌∙◌, subst, rules}
use Rattle.endless.specs.Listed.{members_left}
use Rattle.endless.proofs.Behind.{behind_none, behind_first, behind_more}
use Rattle.endless.proofs.examination.Examination.search_each.Goals as goal

pub loop-place-init : goal.loop-place-init
loop-place-init c = (refl, behind_none _ _ (ap members_left c.into_iter-place-iterator.ensures.into_iter_gives ∙ c.iter-place-items.ensures.left))

pub weight-requires : goal.weight-requires
weight-requires c = c.args.self.now.claim.inside _ (behind_first c.in-Some.ensures.steps c.loop-place.invariant.1)

pub comes_back-requires : goal.comes_back-requires
comes_back-requires c =
    record { place = rw c.loop-place.invariant.0 (c.args.self.now.claim.inside _ (behind_first c.in-Some.ensures.steps c.loop-place.invariant.1)) }

pub returns-then-comes_back-clause-found : goal.returns-then-comes_back-clause-found
returns-then-comes_back-clause-found c = let here = behind_first c.in-Some.ensures.steps c.loop-place.invariant.1 in search rules

pub loop-place-preserved-else-comes_back : goal.loop-place-preserved-else-comes_back
loop-place-preserved-else-comes_back c =
    let same = c.loop-place.invariant.0 in
    let here = behind_first c.in-Some.ensures.steps c.loop-place.invariant.1 in
    let back = rw same at c.comes_back.ensures.back in
    (c.comes_back.ensures.same ∙ same, behind_more c.in-Some.ensures.steps c.loop-place.invariant.1 (λ n d h. h) (λ is walk. subst T c.if-comes_back.false ((back here).1 walk)))

pub loop-place-preserved : goal.loop-place-preserved
loop-place-preserved c =
    (c.loop-place.invariant.0, behind_more c.in-Some.ensures.steps c.loop-place.invariant.1 (λ n d h. h) (λ is walk. c.if-weight-heaviest.false (c.weight.ensures.weight ∙ is)))
