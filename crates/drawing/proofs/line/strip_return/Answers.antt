use Rattle.std.proofs.Common.{lit<}
use Rattle.std.proofs.lemmas.Str.Pattern.{strip_suffix_char}
use Rattle.drawing.proofs.Lines.{stripped}
use Rattle.drawing.proofs.line.strip_return.Goals as goal

pub returns : goal.returns
returns c = stripped c.args.line c.unwrap_or.result c.strip_suffix.result (strip_suffix_char 13 _ _ c.strip_suffix.ensures.cases (lit< tt)) c.unwrap_or.ensures
