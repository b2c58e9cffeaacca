use Rattle.std.proofs.Common.{arith}
use Rattle.std.proofs.lemmas.Grind.{common_steps}
use Rattle.std.proofs.lemmas.Str.{is_utf8-from_IsUtf8, IsUtf8-from_is_utf8}
use Rattle.pgsolver.proofs.write.text.Goals as goal

pub returns : goal.returns
returns c = grind (arith, common_steps, is_utf8-from_IsUtf8, IsUtf8-from_is_utf8)
