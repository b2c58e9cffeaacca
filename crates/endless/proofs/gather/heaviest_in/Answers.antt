use Rattle.std.proofs.lemmas.Iterator.{YieldsList-from_slice}
use Rattle.std.proofs.lemmas.Iterator.Consumers.{YieldsList-from_copied}
use Rattle.endless.proofs.MemberLists.{all_members, members_told, yields_members}
use Rattle.endless.proofs.Picking.{heaviest_told, told_in, told_some}
use Rattle.endless.proofs.gather.heaviest_in.Goals as goal

pub heaviest-requires-clause-inside : goal.heaviest-requires-clause-inside
heaviest-requires-clause-inside c =
    let list = c.in-Some.list.now in
    (list, (YieldsList-from_copied (YieldsList-from_slice list cc)).runs, λ j h. c.requires.inside _ (told_in list _ (c.requires.told _ c.in-Some.is) j h))

pub returns-in-Some : goal.returns-in-Some
returns-in-Some c = λ some.
    let list = c.in-Some.list.now in
    let told = c.requires.told _ c.in-Some.is in
    heaviest_told c.args.graph.now list _ _ told (c.heaviest.ensures list (YieldsList-from_copied (YieldsList-from_slice list cc)).runs (told_some _ c.args.part.now told some))

pub heaviest-requires-in-None-clause-inside : goal.heaviest-requires-in-None-clause-inside
heaviest-requires-in-None-clause-inside c =
    let part = c.args.part.now in
    (all_members part, (yields_members _ c.iter-in-None.ensures.left).runs, λ j h. c.requires.inside _ (told_in (all_members part) _ (members_told part) j h))

pub returns-in-None : goal.returns-in-None
returns-in-None c = λ some.
    let part = c.args.part.now in
    let told = members_told part in
    heaviest_told c.args.graph.now (all_members part) _ _ told (c.heaviest-in-None.ensures (all_members part) (yields_members _ c.iter-in-None.ensures.left).runs (told_some _ part told some))
