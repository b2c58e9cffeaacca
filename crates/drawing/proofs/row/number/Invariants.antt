use Rattle.std.proofs.Common.{◌≡◌, ◌<◌, drop}
use Rattle.drawing.specs.Form.{digits}
use Rattle.drawing.proofs.row.number.Given as goal

abbrev pub invariant-loop-b : goal.invariant-loop-b
invariant-loop-b l = (l.n < 256) × (digits l.n (drop l.b-index l.bytes) ≡ digits 0 l.bytes)
