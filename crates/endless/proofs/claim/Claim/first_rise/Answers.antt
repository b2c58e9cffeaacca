use Rattle.std.proofs.Common.{◌≤◌, arith, rules, tests}
use Rattle.std.proofs.lemmas.Grind.{get_or_default_zero}
use Rattle.std.proofs.lemmas.Iterator.{first_from_find}
use Rattle.std.proofs.lemmas.Iterator.Adapters.{serves_from_places}
use Rattle.endless.specs.Games.{weight}
use Rattle.endless.specs.Says.{goes}
use Rattle.endless.specs.Sides.{number}
use Rattle.endless.specs.Bits.{members}
use Rattle.endless.specs.Flaws.{FallsAt}
use Rattle.endless.proofs.MemberLists.{all_members, members_told, yields_members}
use Rattle.endless.proofs.Picking.{told_in}
use Rattle.endless.proofs.Looks.{first_told}
use Rattle.endless.proofs.claim.Claim.first_rise.Goals as goal

pub find-requires-clause-callable : goal.find-requires-clause-callable
find-requires-clause-callable c =
    let set = c.args.self.now.set.now in
    serves_from_places (yields_members _ c.iter.ensures.left) (λ x q k. search rules)
    (λ x k h is y p. grind (arith, p, is, get_or_default_zero (all_members set) k x h, c.args.self.now.inside _ (told_in (all_members set) _ (members_told set) k h), c.requires))

pub returns : goal.returns
returns c =
    let claim = c.args.self.now in
    first_told _ _ (members_told claim.set.now) (λ n. Unit {0}) (λ n. weight claim.graph.now n ≤ c.args.heaviest → FallsAt claim.graph.now (members claim.set.now) (number claim.side) (goes claim.answer.now) c.args.heaviest c.args.ranks.now n) c.find.result
    (first_from_find c.find.new.self _ c.find.result (λ n. Unit {0}) (λ n. weight claim.graph.now n ≤ c.args.heaviest → FallsAt claim.graph.now (members claim.set.now) (number claim.side) (goes claim.answer.now) c.args.heaviest c.args.ranks.now n) c.find.ensures.ran (yields_members _ c.iter.ensures.left) (λ x q k. tt) (λ x q k. search (rules, tests)))
