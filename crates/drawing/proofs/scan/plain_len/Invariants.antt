use Rattle.std.proofs.Common.{◌≡◌, ◌+◌, ◌≤◌, false, length, drop}
use Rattle.drawing.specs.Form.{plain}
use Rattle.drawing.proofs.scan.plain_len.Given as goal

abbrev pub invariant-loop-b : goal.invariant-loop-b
invariant-loop-b l = (l.n ≤ l.b-index) × (l.n + length (plain l.escaped (drop l.b-index l.bytes)) ≡ length (plain false l.bytes))
