use Rattle.std.proofs.Common.{◌++◌}
use lib.Chars.{codes}
use Rattle.std.specs.Fmt.{HasWritten, IsPlainFormatter, decimal}
use Rattle.pgsolver.specs.Ids.{ids_of, highest}
use Rattle.pgsolver.specs.Solutions.{lines}
use Rattle.pgsolver.proofs.solution.SolutionDisplay.fmt.Given as goal

abbrev pub invariant-loop-n : goal.invariant-loop-n
invariant-loop-n g l =
    let ids = ids_of l.fn.self.named.now in
    IsPlainFormatter l.fn.f → HasWritten g.W.Write.write_str_gives l.fn.f (codes "paritysol " ++ (decimal (highest ids) ++ (codes ";\n" ++ lines ids l.fn.self.game.now l.fn.self.answer.now l.n))) l.f
