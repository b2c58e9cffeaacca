use Rattle.std.proofs.Common.{rules}
use Rattle.std.proofs.lemmas.Iterator.{YieldsList-from_slice}
use Rattle.std.proofs.lemmas.Iterator.Consumers.{YieldsList-from_copied}
use Rattle.endless.proofs.MemberLists.{all_members, members_told, yields_members}
use Rattle.endless.proofs.Picking.{told_in}
use Rattle.endless.proofs.gather.gather_targets.Goals as goal

pub take_all-requires-clause-inside : goal.take_all-requires-clause-inside
take_all-requires-clause-inside c =
    let list = c.in-Some.list.now in
    (list, (YieldsList-from_copied (YieldsList-from_slice list cc)).runs, λ j h. c.requires.inside _ (c.requires.part _ (told_in list _ (c.requires.told _ c.in-Some.is) j h)))

pub take_all-requires-in-None-clause-inside : goal.take_all-requires-in-None-clause-inside
take_all-requires-in-None-clause-inside c =
    let own = c.args.own.now in
    (all_members own, (yields_members _ c.iter-places.ensures.left).runs, λ j h. c.requires.inside _ (told_in (all_members own) _ (members_told own) j h))

pub returns-in-Some-clause-gathered : goal.returns-in-Some-clause-gathered
returns-in-Some-clause-gathered c =
    let list = c.in-Some.list.now in
    let gathered = c.take_all.ensures.gathered list (YieldsList-from_copied (YieldsList-from_slice list cc)).runs (λ n. (c.requires.told _ c.in-Some.is n).0) in
    search rules

pub returns-in-None-clause-gathered : goal.returns-in-None-clause-gathered
returns-in-None-clause-gathered c =
    let own = c.args.own.now in
    let gathered = c.take_all-in-None.ensures.gathered (all_members own) (yields_members _ c.iter-places.ensures.left).runs (λ n x. (members_told own n).0 (c.requires.part n x)) in
    search rules
