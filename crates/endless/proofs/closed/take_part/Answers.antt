use Rattle.endless.proofs.Parts.{whole_taken}
use Rattle.endless.proofs.closed.take_part.Goals as goal

pub returns-in_default-clause-taken : goal.returns-in_default-clause-taken
returns-in_default-clause-taken c = whole_taken c.copy.ensures
