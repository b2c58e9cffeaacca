use Rattle.std.proofs.Common.{inl, refl, sym, ◌∙◌, arith}
use Rattle.std.proofs.lemmas.Option.{slice_get_within}
use Rattle.std.proofs.lemmas.Result.{err_from_is_err_and}
use Rattle.claims.proofs.Tabled.{tabled_again}
use Rattle.pgsolver.proofs.Tellings.{tell_more}
use Rattle.pgsolver.proofs.answer.Solution.tell.Goals as goal

pub returns-in_err-place : goal.returns-in_err-place
returns-in_err-place c = λ ts t.
    let p = err_from_is_err_and c.from_residual.result c.from_residual.ensures.1 in
    rw (p.1, p.2) (c.in_err-place.ensures ts (inl refl))

pub returns-in_err-goal : goal.returns-in_err-goal
returns-in_err-goal c = λ ts t.
    let p = err_from_is_err_and c.from_residual-in_err-goal.result c.from_residual-in_err-goal.ensures.1 in
    rw (p.1, p.2) (c.in_err-goal.ensures ts)

pub insert-requires : goal.insert-requires
insert-requires c = omega (arith, c.requires.many, slice_get_within c.args.self.places.now c.in_ok-place.place c.args.verdict.id c.in_ok-place.ensures)

pub returns-then-not-insert : goal.returns-then-not-insert
returns-then-not-insert c = λ ts t.
    (c.line_at.ensures, refl, tabled_again c.args.self.places.now ts c.args.claims.now t c.requires.differ c.in_ok-place.place c.args.verdict.id c.in_ok-place.ensures (sym c.insert.ensures.first ∙ c.if-not-insert.true))

pub returns : goal.returns
returns c = tell_more c.args.self.text.now c.args.self.places.now c.args.verdict c.args.claims.now c.requires.differ c.in_ok-place.place c.in_ok-place.ensures c.in_ok-goal.goal c.in_ok-goal.ensures (sym c.insert.ensures.first ∙ c.if-not-insert.false) c.insert.new.self c.if-not-insert.ensures.noted
