use Rattle.std.proofs.Common.{◌<◌, length, arith, rules}
use Rattle.std.proofs.lemmas.Grind.{get_or_default_zero}
use Rattle.std.proofs.lemmas.Iterator.Adapters.{serves_from_places}
use Rattle.endless.specs.Says.{goes}
use Rattle.endless.specs.Sides.{number}
use Rattle.endless.specs.Bits.{members}
use Rattle.endless.specs.Flaws.{StaysAt, Spotted}
use Rattle.endless.proofs.MemberLists.{all_members, members_told, yields_members}
use Rattle.endless.proofs.Looks.{tried_all}
use Rattle.endless.proofs.Picking.{told_in}
use Rattle.endless.proofs.look.look.Goals as goal

pub try_for_each-requires-clause-callable : goal.try_for_each-requires-clause-callable
try_for_each-requires-clause-callable c =
    let set = c.args.set.now in
    serves_from_places (yields_members _ c.iter.ensures.left) (λ x q k. search rules)
    (λ x k h is.
    let inside : x < length c.args.places.now = omega (arith, is, get_or_default_zero (all_members set) k x h, c.requires.inside _ (told_in (all_members set) _ (members_told set) k h)) in
    search (inside, c.requires.sets, c.requires.answers, c.requires.same))

pub returns : goal.returns
returns c =
    let g = c.args.places.now in
    let within = members c.args.within.now in
    let set = members c.args.set.now in
    tried_all _ _ set (StaysAt g within set (number c.args.side) (goes c.args.answer.now)) (Spotted g within set (number c.args.side) (goes c.args.answer.now))
    (λ e. e.0) c.try_for_each.new.self c.try_for_each.ensures.ran (yields_members _ c.iter.ensures.left) (members_told c.args.set.now) (λ x v h k. search rules)
