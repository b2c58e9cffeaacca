use Rattle.std.proofs.Common.{lit<, ap, ◌∙◌, get_or, [], refl}
use Rattle.std.proofs.lemmas.Iterator.Consumers.{nth_from_yields_List}
use Rattle.std.proofs.lemmas.Iterator.Splits.{YieldsList-from_str_split}
use Rattle.drawing.specs.Reading.{lines}
use Rattle.drawing.proofs.Lines.{line_or}
use Rattle.drawing.proofs.shown.line_at.Goals as goal

pub returns : goal.returns
returns c =
    let h = nth_from_yields_List _ _ c.saturating_sub.result c.nth.ensures.ran (YieldsList-from_str_split 10 c.args.text.now (lit< tt) c.split.ensures.text c.split.ensures.has_more c.split.ensures.pattern) in
    line_or (lines c.args.text.now) c.saturating_sub.result _ c.unwrap_or.result c.nth.result refl h c.unwrap_or.ensures ∙ ap (λ n. get_or (lines c.args.text.now) n []) c.saturating_sub.ensures
