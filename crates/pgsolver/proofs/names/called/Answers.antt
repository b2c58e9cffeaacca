use Rattle.std.proofs.Common.{◌≡◌, ◌^◌, ◌<◌, map, get_or, string_bytes, ap, ◌∙◌, below_more, arith}
use Rattle.std.proofs.lemmas.List.{take_all}
use Rattle.pgsolver.specs.Called.{called}
use Rattle.pgsolver.specs.Ids.{ids_of}
use Rattle.pgsolver.proofs.Calling.{apart, called_more, id_of}
use Rattle.pgsolver.proofs.names.called.Goals as goal

pub loop-place-preserved : goal.loop-place-preserved
loop-place-preserved c =
    let places = c.args.places.now in
    let k = c.loop-place.place-index in
    let p = c.place-item.result in
    let l = c.loop-place-test.true in
    let is : string_bytes c.in_ok-called.field-0 ≡ called places (get_or places k p) = c.in_ok-called.ensures.is ∙ ap (λ ps. called ps p) c.in_ok-names.ensures ∙ ap (called places) c.place-item.is in
    record {
      are = called_more places k p _ _ _ l c.loop-place.invariant.are c.in_ok-push.ensures.items is;
      fit = below_more (λ j. get_or (ids_of places) j 0 < 2 ^ 64) _ c.loop-place.invariant.fit (omega (arith, id_of places k p l, ap (λ q. q.id) c.place-item.is, c.called.ensures.id));
    }

pub returns-clause-apart : goal.returns-clause-apart
returns-clause-apart c =
    let places = c.args.places.now in
    apart places _ (c.loop-place.invariant.are ∙ ap (map (called places)) (take_all _ places c.loop-place-test.false)) (λ k l. c.loop-place.invariant.fit k (omega (arith, l, c.loop-place-test.false)))
