use Rattle.std.proofs.Common.{◌≡◌, ◌<◌, map, length, Some, option_map, slice_get, string_bytes, refl, sym, ap, ◌∙◌, arith}
use Rattle.std.proofs.lemmas.List.{length-map}
use Rattle.std.proofs.lemmas.Option.{slice_get-map, slice_get_read}
use Rattle.std.proofs.lemmas.Result.{err_from_is_err_and}
use Rattle.drawing.proofs.Tellings.{tells_words, open_within, open_missing, collected_wrong}
use Rattle.drawing.proofs.answer.read_answer.Goals as goal
use Rattle.drawing.proofs.answer.read_answer.Goals.{In-Err-Unclaimed}

pub returns-in_err-places-clause-says : goal.returns-in_err-places-clause-says
returns-in_err-places-clause-says c =
    let p = err_from_is_err_and c.from_residual.result c.from_residual.ensures.1 in
    rw (p.1, p.2) (collected_wrong c.args.text.now (map string_bytes c.args.names.now) _ c.in_err-places.ensures)

pub returns-in-Ok-clause-tells : goal.returns-in-Ok-clause-tells
returns-in-Ok-clause-tells c =
    tells_words c.args.text.now (map string_bytes c.args.names.now) c.in_ok-places.places c.in_ok-places.ensures c.in_ok-claims.claims c.in_ok-claims.ensures c.in-Ok.words.items c.in-Ok.ensures

-- the place is one of those that are named
within : (c : In-Err-Unclaimed) → c.in-Err-Unclaimed.place < length c.args.names.now
within c =
    omega (
      arith,
      length-map c.args.names.now string_bytes,
      open_within c.args.text.now (map string_bytes c.args.names.now) c.in_ok-places.places c.in_ok-places.ensures c.in_ok-claims.claims c.in_ok-claims.ensures c.in-Err-Unclaimed.field-0 c.in-Err-Unclaimed.place c.in-Err-Unclaimed.ensures c.in-Err-Unclaimed.field-0-is,
    )

pub offset_bounds-names-place : goal.offset_bounds-names-place
offset_bounds-names-place c =
    omega (arith, within c, c.places.invariant, ap length (c.places.view_is ∙ c.in_ok-places.ensures.0), length-map c.places.inside.names.keys string_bytes, length-map c.args.names.now string_bytes)

pub bounds-names-place : goal.bounds-names-place
bounds-names-place c = within c

pub returns-in-Err-Unclaimed-clause-says : goal.returns-in-Err-Unclaimed-clause-says
returns-in-Err-Unclaimed-clause-says c =
    let named : slice_get (map string_bytes c.args.names.now) c.in-Err-Unclaimed.place ≡ Some (string_bytes c.in_ok-clone-in-Err-Unclaimed.field-0) =
    slice_get-map string_bytes c.args.names.now c.in-Err-Unclaimed.place ∙ ap (option_map string_bytes) (slice_get_read c.args.names.now _ c.in-Err-Unclaimed.place c.index-names-place.result refl (within (goal.at.returns-in-Err-Unclaimed-clause-says c).In-Err-Unclaimed) c.index-names-place.is) ∙ ap Some (sym c.in_ok-clone-in-Err-Unclaimed.ensures.cases) in
    open_missing c.args.text.now (map string_bytes c.args.names.now) c.in_ok-places.places c.in_ok-places.ensures c.in_ok-claims.claims c.in_ok-claims.ensures c.in-Err-Unclaimed.field-0 c.in-Err-Unclaimed.place c.in-Err-Unclaimed.ensures c.in-Err-Unclaimed.field-0-is (string_bytes c.in_ok-clone-in-Err-Unclaimed.field-0) named
