use Rattle.std.proofs.Common.{ap, rules}
use Rattle.std.specs.Prelude.{option_copied}
use Rattle.endless.specs.Parts.{wanted, mark}
use Rattle.endless.proofs.Tests.{T_true}
use Rattle.endless.proofs.SetLaws.{members_below}
use Rattle.endless.proofs.Picking.{told_in, starts_whole}
use Rattle.endless.proofs.gather.gather_part.Goals as goal

pub take_listed-requires-clause-inside : goal.take_listed-requires-clause-inside
take_listed-requires-clause-inside c = λ j h. let p = c.requires.part in members_below c.args.set.now _ (T_true _ (p.1.within _ (told_in c.in-Some.list.now p.0 (p.1.told _ (ap option_copied c.in-Some.is)) j h)))

pub returns-in-Some-clause-starts : goal.returns-in-Some-clause-starts
returns-in-Some-clause-starts c = λ R part.
    let starts = c.take_listed.ensures.all R part.within (part.told _ (ap option_copied c.in-Some.is)) in
    search rules

pub returns-in-None-clause-starts : goal.returns-in-None-clause-starts
returns-in-None-clause-starts c = λ R part.
    let starts = starts_whole (wanted c.args.winner c.args.out.now) (mark c.args.winner) part (ap option_copied c.in-None.is) c.take_all.ensures.all in
    search rules
