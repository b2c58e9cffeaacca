use Rattle.pgsolver.proofs.Assembling.{assembled}
use Rattle.pgsolver.proofs.assemble.Goals as goal

pub returns : goal.returns
returns c = assembled _ _ _ c.in_ok-places.ensures.0 c.in_ok-places.ensures.1 (rw c.deref.ensures.value c.in_ok-weights.ensures.fitted) _ c.write_words.ensures
