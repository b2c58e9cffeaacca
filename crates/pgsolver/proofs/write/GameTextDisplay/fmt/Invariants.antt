use Rattle.std.proofs.Common.{◌++◌}
use lib.Chars.{codes}
use Rattle.std.specs.Fmt.{HasWritten, IsPlainFormatter, decimal}
use Rattle.pgsolver.specs.Ids.{ids_of, names_of, highest}
use Rattle.pgsolver.specs.Written.{place_texts}
use Rattle.pgsolver.proofs.write.GameTextDisplay.fmt.Given as goal

abbrev pub invariant-loop-n : goal.invariant-loop-n
invariant-loop-n g l =
    let ids = ids_of l.fn.self.named.now in
    IsPlainFormatter l.fn.f → HasWritten g.W.Write.write_str_gives l.fn.f (codes "parity " ++ (decimal (highest ids) ++ (codes ";\n" ++ place_texts ids (names_of l.fn.self.named.now) l.fn.self.game.now l.n))) l.f
