use Rattle.std.proofs.Common.{map, string_bytes, rules}
use Rattle.std.proofs.Output.{has_written_append, has_written_of_eq}
use Rattle.drawing.specs.Sheets.{line_text}
use Rattle.drawing.proofs.Rows.{one_more}
use Rattle.drawing.proofs.sheet.SheetDisplay.fmt.Goals as goal

pub loop-n-preserved : goal.loop-n-preserved
loop-n-preserved g c = λ p. has_written_of_eq _ _ _ _ _ (one_more (line_text c.args.self.now.places.now (map string_bytes c.args.self.now.names.now)) c.loop-n.n) (has_written_append _ _ _ _ _ _ (c.loop-n.invariant p) (search rules))
