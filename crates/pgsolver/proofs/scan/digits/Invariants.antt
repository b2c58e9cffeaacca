use Rattle.std.proofs.Common.{◌≡◌, ◌<◌, drop}
use Rattle.pgsolver.specs.Form.{digits}
use Rattle.pgsolver.proofs.scan.digits.Given as goal

abbrev pub invariant-loop-n : goal.invariant-loop-n
invariant-loop-n l = record { fits : l.value < 4294967296; same : digits l.value (drop l.n l.text) ≡ digits 0 l.text }
