use Rattle.std.proofs.Common.{◌≡◌, ◌≢◌, arith, rules, tests}
use Rattle.std.proofs.lemmas.Grind.{get_or_default_zero}
use Rattle.std.proofs.lemmas.Iterator.{cases_from_any}
use Rattle.std.proofs.lemmas.Iterator.Adapters.{serves_from_places}
use Rattle.endless.specs.Games.{weight}
use Rattle.endless.proofs.MemberLists.{all_members, members_told, yields_members}
use Rattle.endless.proofs.Picking.{told_in}
use Rattle.endless.proofs.Looks.{none_told}
use Rattle.endless.proofs.claim.Claim.occurs.Goals as goal

pub any-requires-clause-callable : goal.any-requires-clause-callable
any-requires-clause-callable c =
    let set = c.args.self.now.set.now in
    serves_from_places (yields_members _ c.iter.ensures.left) (λ x q k. search rules)
    (λ x k h is _ _ _ _ _ _. omega (arith, is, get_or_default_zero (all_members set) k x h, c.args.self.now.inside _ (told_in (all_members set) _ (members_told set) k h)))

pub returns : goal.returns
returns c =
    let claim = c.args.self.now in
    none_told _ _ (members_told claim.set.now) _ (λ n. weight claim.graph.now n ≢ c.args.weight) c.any.result
    (cases_from_any c.any.new.self _ c.any.result (λ n. weight claim.graph.now n ≡ c.args.weight) (λ n. weight claim.graph.now n ≢ c.args.weight) c.any.ensures.ran (yields_members _ c.iter.ensures.left) (λ x q k. search (rules, tests)) (λ x q k. search (rules, tests)))
