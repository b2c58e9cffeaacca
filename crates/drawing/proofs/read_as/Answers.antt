use Rattle.drawing.proofs.Wrongs.{answered}
use Rattle.drawing.proofs.read_as.Goals as goal

pub returns-clause-wrong : goal.returns-clause-wrong
returns-clause-wrong c = answered c.args.kind c.args.text.now c.read_lines.result c.read_lines.ensures.answers
