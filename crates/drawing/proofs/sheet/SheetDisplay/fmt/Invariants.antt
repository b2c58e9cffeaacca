use Rattle.std.proofs.Common.{map, string_bytes}
use Rattle.std.specs.List.{flat_map, range_with_len}
use Rattle.std.specs.Fmt.{HasWritten, IsPlainFormatter}
use Rattle.drawing.specs.Sheets.{line_text}
use Rattle.drawing.proofs.sheet.SheetDisplay.fmt.Given as goal

-- the lines so far are written
abbrev pub invariant-loop-n : goal.invariant-loop-n
invariant-loop-n g l = IsPlainFormatter l.initial.f → HasWritten g.W.Write.write_str_gives l.initial.f (flat_map (line_text l.self.places.now (map string_bytes l.self.names.now)) (range_with_len 0 l.n)) l.f
