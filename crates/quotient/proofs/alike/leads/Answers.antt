use Rattle.quotient.proofs.Within.{move_place, part_inside, within_leads, leads_within}
use Rattle.quotient.proofs.alike.leads.Goals as goal

pub gather-requires-clause-places : goal.gather-requires-clause-places
gather-requires-clause-places c = move_place c.requires.parted c.args.other c.moves-moves.ensures.moves

pub gather-requires-clause-inside : goal.gather-requires-clause-inside
gather-requires-clause-inside c = part_inside c.requires.parted c.args.other c.moves-moves.ensures.moves

pub all_within-leads-requires-clause-places : goal.all_within-leads-requires-clause-places
all_within-leads-requires-clause-places c = move_place c.requires.parted c.args.place c.moves.ensures.moves

pub release-requires-clause-places : goal.release-requires-clause-places
release-requires-clause-places c = move_place c.requires.parted c.args.other c.moves-moves.ensures.moves

pub returns-clause-leads : goal.returns-clause-leads
returns-clause-leads c =
    let g = c.args.places.now in (
      λ e. within_leads g c.args.place c.args.other c.moves.ensures.moves c.moves-moves.ensures.moves c.requires.empty c.gather.ensures (c.all_within-leads.ensures.all e),
      leads_within g c.args.place c.args.other c.moves.ensures.moves c.moves-moves.ensures.moves c.requires.empty c.gather.ensures c.all_within-leads.result c.all_within-leads.ensures.some_out,
    )
