use Rattle.std.proofs.Common.{◌∙◌}
use Rattle.endless.proofs.Own.{own_is}
use Rattle.endless.proofs.graph.Graph.is_own.Goals as goal

pub returns : goal.returns
returns c = c.has.ensures ∙ own_is c.own.ensures c.args.n c.requires
