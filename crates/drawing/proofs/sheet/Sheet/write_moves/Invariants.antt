use Rattle.std.proofs.Common.{take, map, string_bytes}
use Rattle.std.specs.List.{flat_map}
use Rattle.std.specs.Fmt.{HasWritten, IsPlainFormatter}
use Rattle.drawing.specs.Sheets.{move_text}
use Rattle.drawing.proofs.sheet.Sheet.write_moves.Given as goal

-- the moves so far are written
abbrev pub invariant-loop-m : goal.invariant-loop-m
invariant-loop-m g l = IsPlainFormatter l.initial.f → HasWritten g.W.Write.write_str_gives l.initial.f (flat_map (move_text (map string_bytes l.self.names.now)) (take l.m-index l.m-items)) l.f
