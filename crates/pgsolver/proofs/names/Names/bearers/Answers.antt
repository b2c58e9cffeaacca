use Rattle.std.proofs.Common.{ap, ◌∙◌, unwrap_or}
use Rattle.pgsolver.proofs.names.Names.bearers.Goals as goal

pub returns : goal.returns
returns c = c.unwrap_or.ensures ∙ ap (λ o. unwrap_or o 0) (c.copied.ensures ∙ c.get.ensures.value) ∙ c.args.self.now.counted c.args.name.now
