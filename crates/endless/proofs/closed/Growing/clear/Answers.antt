use Rattle.endless.proofs.Parts.{listing_none}
use Rattle.endless.proofs.closed.Growing.clear.Goals as goal

pub returns-clause-lists : goal.returns-clause-lists
returns-clause-lists c = listing_none c.clear.ensures
