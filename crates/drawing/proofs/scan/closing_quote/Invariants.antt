use Rattle.std.proofs.Common.{◌≡◌, false, drop}
use Rattle.drawing.specs.Form.{closing}
use Rattle.drawing.proofs.Scans.{further}
use Rattle.drawing.proofs.scan.closing_quote.Given as goal

abbrev pub invariant-loop-n : goal.invariant-loop-n
invariant-loop-n l = further l.n (closing l.escaped (drop l.n l.bytes)) ≡ closing false l.bytes
