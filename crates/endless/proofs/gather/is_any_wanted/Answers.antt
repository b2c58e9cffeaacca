use Rattle.std.proofs.Common.{ap}
use Rattle.std.specs.Prelude.{option_copied}
use Rattle.std.proofs.lemmas.Iterator.{YieldsList-from_slice}
use Rattle.std.proofs.lemmas.Iterator.Consumers.{YieldsList-from_copied}
use Rattle.endless.proofs.MemberLists.{all_members, members_told, yields_members, told_part}
use Rattle.endless.proofs.Picking.{told_in, any_told}
use Rattle.endless.proofs.gather.is_any_wanted.Goals as goal

pub is_any-requires-clause-inside : goal.is_any-requires-clause-inside
is_any-requires-clause-inside c =
    let list = c.in-Some.list.now in
    let part = c.requires.part.1 in
    (list, (YieldsList-from_copied (YieldsList-from_slice list cc)).runs, λ j h. c.requires.answers _ (part.within _ (told_in list _ (part.told _ (ap option_copied c.in-Some.is)) j h)))

pub is_any-requires-in-None-clause-inside : goal.is_any-requires-in-None-clause-inside
is_any-requires-in-None-clause-inside c =
    let own = c.args.set.now in
    (all_members own, (yields_members _ c.iter-in-None.ensures.left).runs, λ j h. c.requires.answers _ (told_in (all_members own) _ (members_told own) j h))

pub returns-in-Some : goal.returns-in-Some
returns-in-Some c = λ R part.
    let list = c.in-Some.list.now in
    any_told _ _ list R (part.told _ (ap option_copied c.in-Some.is)) c.is_any.result (c.is_any.ensures list (YieldsList-from_copied (YieldsList-from_slice list cc)).runs)

pub returns-in-None : goal.returns-in-None
returns-in-None c = λ R part.
    let own = c.args.set.now in
    any_told _ _ (all_members own) R (told_part own R part (ap option_copied c.in-None.is)) c.is_any-in-None.result (c.is_any-in-None.ensures (all_members own) (yields_members _ c.iter-in-None.ensures.left).runs)
