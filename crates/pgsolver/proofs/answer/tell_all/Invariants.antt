use Rattle.std.proofs.Common.{take}
use Rattle.claims.specs.Tables.{Tabled}
use Rattle.pgsolver.specs.Answering.{told_by}
use Rattle.pgsolver.proofs.answer.tell_all.Given as goal

abbrev pub invariant-loop-verdict : goal.invariant-loop-verdict
invariant-loop-verdict l = Tabled l.places (told_by (take l.verdict-index l.verdicts)) l.claims
