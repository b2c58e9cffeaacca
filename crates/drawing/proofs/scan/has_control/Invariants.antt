use Rattle.std.proofs.Common.{◌≡◌, false, drop}
use Rattle.drawing.specs.Form.{control_within}
use Rattle.drawing.proofs.scan.has_control.Given as goal

abbrev pub invariant-loop-b : goal.invariant-loop-b
invariant-loop-b l = control_within l.wide (drop l.b-index l.bytes) ≡ control_within false l.bytes
