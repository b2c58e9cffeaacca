use Rattle.endless.proofs.Parts.{listed_taken}
use Rattle.endless.proofs.closed.Growing.take_within.Goals as goal

pub returns-in-Some-clause-taken : goal.returns-in-Some-clause-taken
returns-in-Some-clause-taken c = listed_taken c.in-Some.list.now c.clear.ensures.same c.take_all.ensures.grown c.take_all.ensures.holds (c.requires _ c.in-Some.is).covers
