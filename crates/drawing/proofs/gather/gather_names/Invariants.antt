use Rattle.std.proofs.Common.{◌≡◌, suc, [], length, drop}
use Rattle.drawing.specs.Reading.{lines, name_lines}
use Rattle.drawing.proofs.gather.gather_names.Given as goal

-- the names so far and the lines left give what all lines give
abbrev pub invariant-loop-number : goal.invariant-loop-number
invariant-loop-number l = name_lines l.kind (suc (length l.yielded)) l.names (drop (length l.yielded) (lines l.text)) ≡ name_lines l.kind 1 [] (lines l.text)
