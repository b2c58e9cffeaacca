use Rattle.std.proofs.Common.{◌<◌, map, length, Ok, option_map, sym, ap, ◌∙◌, arith}
use Rattle.std.proofs.lemmas.List.{length-map}
use Rattle.std.proofs.lemmas.Option.{slice_get-map, slice_get-get_or}
use Rattle.std.proofs.lemmas.Result.{err_from_is_err_and}
use Rattle.pgsolver.proofs.Tellings.{tells_words, open_within, open_missing, collected_wrong}
use Rattle.pgsolver.proofs.answer.read_solution.Goals as goal
use Rattle.pgsolver.proofs.answer.read_solution.Goals.{In-Err-Unclaimed}

pub returns-in_err-places-clause-says : goal.returns-in_err-places-clause-says
returns-in_err-places-clause-says c =
    let p = err_from_is_err_and c.from_residual.result c.from_residual.ensures.1 in
    rw (p.1, p.2) (collected_wrong c.args.text.now (map (λ p. p.id) c.args.nodes.now) _ c.in_err-places.ensures)

pub returns-in_err-verdicts-clause-says : goal.returns-in_err-verdicts-clause-says
returns-in_err-verdicts-clause-says c =
    let p = err_from_is_err_and c.from_residual-in_err-verdicts.result c.from_residual-in_err-verdicts.ensures.1 in
    rw (p.1, p.2) (c.in_err-verdicts.ensures (map (λ p. p.id) c.args.nodes.now))

pub returns-in-Ok-clause-tells : goal.returns-in-Ok-clause-tells
returns-in-Ok-clause-tells c =
    tells_words c.args.text.now (map (λ p. p.id) c.args.nodes.now) c.in_ok-places.places c.in_ok-places.ensures c.deref.result.now (c.in_ok-verdicts.ensures ∙ ap Ok (sym c.deref.ensures.value)) c.in_ok-claims.claims c.in_ok-claims.ensures c.in-Ok.words.items c.in-Ok.ensures

-- the node is one of those that are named
within : (c : In-Err-Unclaimed) → c.in-Err-Unclaimed.place < length c.args.nodes.now
within c =
    omega (
      arith,
      length-map c.args.nodes.now (λ p. p.id),
      open_within c.args.text.now (map (λ p. p.id) c.args.nodes.now) c.in_ok-places.places c.in_ok-places.ensures c.deref.result.now (c.in_ok-verdicts.ensures ∙ ap Ok (sym c.deref.ensures.value)) c.in_ok-claims.claims c.in_ok-claims.ensures c.in-Err-Unclaimed.field-0 c.in-Err-Unclaimed.place c.in-Err-Unclaimed.ensures c.in-Err-Unclaimed.field-0-is,
    )

pub offset_bounds-nodes-place : goal.offset_bounds-nodes-place
offset_bounds-nodes-place c =
    omega (arith, within c, c.places.invariant, ap length (c.places.view_is ∙ c.in_ok-places.ensures.0), length-map c.args.nodes.now (λ p. p.id))

pub bounds-nodes-place : goal.bounds-nodes-place
bounds-nodes-place c = within c

pub bounds-nodes-place-in-Err-Unclaimed : goal.bounds-nodes-place-in-Err-Unclaimed
bounds-nodes-place-in-Err-Unclaimed c = within (goal.at.bounds-nodes-place-in-Err-Unclaimed c).In-Err-Unclaimed

pub returns-in-Err-Unclaimed-clause-says : goal.returns-in-Err-Unclaimed-clause-says
returns-in-Err-Unclaimed-clause-says c =
    let here = within (goal.at.returns-in-Err-Unclaimed-clause-says c).In-Err-Unclaimed in
    open_missing c.args.text.now (map (λ p. p.id) c.args.nodes.now) c.in_ok-places.places c.in_ok-places.ensures c.deref.result.now (c.in_ok-verdicts.ensures ∙ ap Ok (sym c.deref.ensures.value)) c.in_ok-claims.claims c.in_ok-claims.ensures c.in-Err-Unclaimed.field-0 c.in-Err-Unclaimed.place c.in-Err-Unclaimed.ensures c.in-Err-Unclaimed.field-0-is _
    (slice_get-map (λ p. p.id) c.args.nodes.now c.in-Err-Unclaimed.place ∙ ap (option_map (λ p. p.id)) (slice_get-get_or c.args.nodes.now c.in-Err-Unclaimed.place _ here))
