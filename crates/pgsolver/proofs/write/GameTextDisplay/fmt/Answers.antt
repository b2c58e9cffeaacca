use Rattle.std.proofs.Common.{refl, sym, subst}
use lib.Chars.{codes}
use Rattle.std.specs.Fmt.{HasWritten, decimal}
use Rattle.std.proofs.Output.{has_written_append}
use Rattle.pgsolver.specs.Ids.{ids_of, names_of, highest}
use Rattle.pgsolver.proofs.Writing.{texts_more}
use Rattle.pgsolver.proofs.write.GameTextDisplay.fmt.Goals as goal

pub loop-n-preserved : goal.loop-n-preserved
loop-n-preserved g c = λ p.
    let t = c.args.self.now in
    let before = c.loop-n.invariant p in
    let line = c.in_ok-write_place.ensures before.plain refl in
    subst (λ l. HasWritten g.W.Write.write_str_gives c.args.f.now l c.write_place.new.f) (sym (texts_more (ids_of t.named.now) (names_of t.named.now) t.game.now c.loop-n.n (codes "parity ") (decimal (highest (ids_of t.named.now))) (codes ";\n"))) (has_written_append _ _ _ _ _ _ before line)
