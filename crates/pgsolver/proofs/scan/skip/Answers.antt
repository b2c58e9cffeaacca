use Rattle.std.proofs.Common.{ap, ◌∙◌, drop, rules, tests}
use Rattle.std.proofs.lemmas.Iterator.{YieldsList-from_slice}
use Rattle.std.proofs.lemmas.Iterator.Consumers.{count_from_yields_List}
use Rattle.std.proofs.lemmas.Iterator.Search.{YieldsList-from_take_while}
use Rattle.std.proofs.lemmas.List.{take_rest}
use Rattle.std.proofs.lemmas.List.Folds.{length-prefix_len}
use Rattle.pgsolver.specs.Form.{blank}
use Rattle.pgsolver.proofs.scan.skip.Goals as goal

pub returns : goal.returns
returns c =
    let text = c.args.text.now in
    let many = count_from_yields_List c.take_while.result _ c.count-blanks.ensures.ran (YieldsList-from_take_while _ blank (YieldsList-from_slice text (cc)) c.take_while.ensures.closure c.take_while.ensures.done (λ x b q k. search (rules, tests))) ∙ length-prefix_len blank text in
    take_rest text c.count-blanks.result ∙ ap (λ n. drop n text) many
