use Rattle.std.proofs.Common.{[], ◌∷◌, ◌++◌, length, slice_get, Some, sym, ap, ◌∙◌, arith}
use Rattle.std.proofs.lemmas.Option.{slice_get-get_or}
use Rattle.claims.proofs.Wording.{worded_more, worded_all}
use Rattle.claims.proofs.Claims.to_words.Goals as goal

pub loop-place-preserved : goal.loop-place-preserved
loop-place-preserved c =
    let whole = c.deref-claim-items.ensures.value ∙ c.self.view_is in
    worded_more c.args.self.now _ c.loop-place.place c.in_ok-claim.claim c.loop-place.invariant
    (ap (λ l. slice_get l c.loop-place.place) (sym whole) ∙ slice_get-get_or c.deref-claim-items.result.now c.loop-place.place _ c.loop-place-test.true ∙ ap Some c.in_ok-claim.ensures.ok_part)
    c.push.new.self.items _ (c.in_ok-push.ensures.items ∙ ap (λ x. c.loop-place.words.items ++ (x ∷ [])) c.from.ensures) (c.in_ok-push-2.ensures.items ∙ ap (λ x. c.push.new.self.items ++ (x ∷ [])) c.unwrap_or.ensures)

pub returns : goal.returns
returns c = worded_all c.args.self.now _ c.loop-place.place (omega (arith, c.loop-place-test.false, c.loop-place.auto.place-end, ap length (c.deref-claim-items.ensures.value ∙ c.self.view_is))) c.loop-place.invariant
