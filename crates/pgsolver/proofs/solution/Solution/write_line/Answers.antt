use Rattle.std.proofs.Common.{Some, None, ◌∙◌, sym, subst, arith}
use Rattle.std.specs.Fmt.{HasWritten}
use Rattle.pgsolver.proofs.Solutions.{line_is}
use Rattle.pgsolver.proofs.solution.Solution.write_line.Goals as goal

pub returns-in-Some : goal.returns-in-Some
returns-in-Some g c p ok =
    let s = c.args.self in
    let is = line_is s.named.now s.game.now s.answer.now c.args.n c.index-self-n.result (Some c.in-Some.to) (omega arith) (omega arith) (sym c.in-Some.is ∙ c.winners_move.ensures) in
    subst (λ l. HasWritten g.W.Write.write_str_gives c.args.f.now l c.writeln.new.self) is (c.writeln.ensures.writes p ok)

pub returns-in-None : goal.returns-in-None
returns-in-None g c p ok =
    let s = c.args.self in
    let is = line_is s.named.now s.game.now s.answer.now c.args.n c.index-self-n.result None (omega arith) (omega arith) (sym c.in-None.is ∙ c.winners_move.ensures) in
    subst (λ l. HasWritten g.W.Write.write_str_gives c.args.f.now l c.writeln-in-None.new.self) is (c.writeln-in-None.ensures.writes p ok)
