use Rattle.std.proofs.Common.{arith}
use Rattle.std.proofs.lemmas.Grind.{common_steps}
use Rattle.std.proofs.lemmas.Str.{is_utf8-from_IsUtf8, IsUtf8-from_is_utf8}
use Rattle.pgsolver.proofs.names.Names.telling.Goals as goal

pub returns : goal.returns
returns c = grind (arith, common_steps, is_utf8-from_IsUtf8, IsUtf8-from_is_utf8)

pub returns-in_err-text : goal.returns-in_err-text
returns-in_err-text c = grind (arith, common_steps, is_utf8-from_IsUtf8, IsUtf8-from_is_utf8)
