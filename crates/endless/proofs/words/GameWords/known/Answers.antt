use Rattle.endless.proofs.View.{reads_in}
use Rattle.endless.proofs.words.GameWords.known.Goals as goal

pub invariant_of-result : goal.invariant_of-result
invariant_of-result c = reads_in c.args.words.now c.requires.0 c.requires.1

pub returns : goal.returns
returns c = reads_in c.args.words.now c.requires.0 c.requires.1
