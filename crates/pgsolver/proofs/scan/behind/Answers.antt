use Rattle.std.proofs.Common.{◌∙◌, ap}
use Rattle.std.proofs.lemmas.Bool.Decides.{Decides-eqb}
use Rattle.std.proofs.lemmas.Slice.Eq.{strip_prefix_is}
use Rattle.pgsolver.specs.Form.{starts}
use Rattle.pgsolver.proofs.Scans.{stripped}
use Rattle.pgsolver.proofs.scan.behind.Goals as goal

pub returns : goal.returns
returns c = stripped c.args.word.now c.skip.result.now _ (strip_prefix_is Decides-eqb c.skip.result.now c.args.word.now _ c.strip_prefix.ensures.cases) ∙ ap (starts c.args.word.now) c.skip.ensures
