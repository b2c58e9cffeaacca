use Rattle.std.proofs.Common.{ap, refl}
use Rattle.std.specs.Prelude.{option_copied}
use Rattle.std.proofs.lemmas.Iterator.{YieldsList-from_slice}
use Rattle.std.proofs.lemmas.Iterator.Consumers.{YieldsList-from_copied}
use Rattle.endless.proofs.MemberLists.{all_members, members_told, yields_members, told_part}
use Rattle.endless.proofs.Picking.{told_in}
use Rattle.endless.proofs.Recounting.{recounted_all}
use Rattle.endless.proofs.escapes.count_ways.Goals as goal

pub count_each-requires-clause-inside : goal.count_each-requires-clause-inside
count_each-requires-clause-inside c =
    let list = c.in-Some.list.now in
    let part = c.requires.part.1 in
    (list, (YieldsList-from_copied (YieldsList-from_slice list cc)).runs, λ j h. c.requires.inside _ (part.within _ (told_in list _ (part.told _ (ap option_copied c.in-Some.is)) j h)))

pub count_each-requires-in-None-clause-inside : goal.count_each-requires-in-None-clause-inside
count_each-requires-in-None-clause-inside c =
    let own = c.args.set.now in
    (all_members own, (yields_members _ c.iter-in-None.ensures.left).runs, λ j h. c.requires.inside _ (told_in (all_members own) _ (members_told own) j h))

pub returns-in-Some : goal.returns-in-Some
returns-in-Some c = λ R part.
    let list = c.in-Some.list.now in
    recounted_all (c.count_each.ensures list (YieldsList-from_copied (YieldsList-from_slice list cc)).runs) R refl (part.told _ (ap option_copied c.in-Some.is))

pub returns-in-None : goal.returns-in-None
returns-in-None c = λ R part.
    let own = c.args.set.now in
    recounted_all (c.count_each-in-None.ensures (all_members own) (yields_members _ c.iter-in-None.ensures.left).runs) R refl (told_part own R part (ap option_copied c.in-None.is))
