use Rattle.std.proofs.Common.{◌≡◌, Some, Ok, sym, ap, ◌∙◌, subst, arith}
use Rattle.std.proofs.lemmas.Option.{slice_get_within}
use Rattle.drawing.specs.Lexed.{meant}
use Rattle.drawing.specs.Heard.{Heard}
use Rattle.drawing.specs.Telling.{said}
use Rattle.drawing.proofs.Refusing.{mapped}
use Rattle.drawing.proofs.Tellings.{tell_again, tell_more}
use Rattle.drawing.proofs.answer.Line.tell.Goals as goal

pub insert-requires : goal.insert-requires
insert-requires c = omega (arith, c.requires.many, slice_get_within c.args.self.names.now c.in_ok-place.place (meant c.in-Some.told.name) c.in_ok-place.ensures)

pub returns-then-not-insert : goal.returns-then-not-insert
returns-then-not-insert c =
    let read : c.read_line.result ≡ Ok (Some c.in-Some.told) = mapped _ c.read_line.result c.map_err.result _ c.map_err.ensures.cases c.map_err.ensures.variant (c.in_ok-told.was ∙ ap Ok c.in-Some.is) in
    tell_again c.args.self.number c.args.self.names.now (said c.args.line.now) c.in-Some.told (subst (Heard (said c.args.line.now)) read c.read_line.ensures) c.args.claims.now c.requires.differ c.in_ok-place.place c.in_ok-place.ensures c.in_ok-to_name.field-0 c.in_ok-to_name.ensures (sym c.insert.ensures.first ∙ c.if-not-insert.true)

pub returns : goal.returns
returns c =
    let read : c.read_line.result ≡ Ok (Some c.in-Some.told) = mapped _ c.read_line.result c.map_err.result _ c.map_err.ensures.cases c.map_err.ensures.variant (c.in_ok-told.was ∙ ap Ok c.in-Some.is) in
    tell_more c.args.self.number c.args.self.names.now (said c.args.line.now) c.in-Some.told (subst (Heard (said c.args.line.now)) read c.read_line.ensures) c.args.claims.now c.requires.differ c.in_ok-place.place c.in_ok-place.ensures c.in_ok-goal.goal c.in_ok-goal.ensures (sym c.insert.ensures.first ∙ c.if-not-insert.false) c.insert.new.self c.if-not-insert.ensures.noted
