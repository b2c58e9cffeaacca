use Rattle.std.proofs.Common.{◌≡◌, vec_items, ap, ◌∙◌, arith, unwrap_or}
use Rattle.std.proofs.lemmas.Map.Text.{btree_map_updates_str}
use Rattle.pgsolver.proofs.Calling.{bearers_few, counted, counted_more}
use Rattle.pgsolver.proofs.names.count_names.Goals as goal

pub overflow_add-count : goal.overflow_add-count
overflow_add-count c =
    let is : c.unwrap_or-count.result ≡ unwrap_or (counted c.loop-place.counts c.as_slice-name.result.now) 0 = c.unwrap_or-count.ensures ∙ ap (λ o. unwrap_or o 0) (c.copied.ensures ∙ c.get.ensures.value) in
    omega (arith, is, c.loop-place.invariant c.as_slice-name.result.now, bearers_few c.args.places.now c.loop-place.place-index c.as_slice-name.result.now c.loop-place-test.true)

pub loop-place-preserved : goal.loop-place-preserved
loop-place-preserved c =
    let is : c.unwrap_or-count.result ≡ unwrap_or (counted c.loop-place.counts c.as_slice-name.result.now) 0 = c.unwrap_or-count.ensures ∙ ap (λ o. unwrap_or o 0) (c.copied.ensures ∙ c.get.ensures.value) in
    let sets = btree_map_updates_str c.as_slice-name.result.now c.loop-place.counts c.insert.new.self _ c.in_ok-insert.ensures.updates in
    counted_more c.args.places.now c.loop-place.place-index c.place-item.result c.loop-place-test.true c.loop-place.counts c.insert.new.self c.loop-place.invariant c.as_slice-name.result.now (c.as_slice-name.ensures.value ∙ ap (λ p. vec_items p.name) c.place-item.is) (rw is at sets)
