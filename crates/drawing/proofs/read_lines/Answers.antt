use Rattle.std.proofs.Common.{sym, ◌∙◌, subst}
use Rattle.drawing.specs.Drawn.{Drawn}
use Rattle.drawing.proofs.Readings.{drawn}
use Rattle.drawing.proofs.read_lines.Goals as goal

pub returns-clause-drawn : goal.returns-clause-drawn
returns-clause-drawn c =
    subst (λ l. Drawn c.args.kind c.args.text.now l c.in_ok-words.words.items) (sym c.in_ok-names.ensures) (drawn c.args.kind c.args.text.now c.in_ok-table.table c.in_ok-words.words.items c.in_ok-table.ensures (λ z. c.if-len-eq0.false (c.len.ensures ∙ z)) c.in_ok-words.ensures)
