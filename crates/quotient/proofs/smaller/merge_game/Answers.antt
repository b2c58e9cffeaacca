use Rattle.std.proofs.Common.{◌≡◌, length, sym, ◌∙◌, subst, arith}
use Rattle.endless.specs.Games.{Game}
use Rattle.quotient.specs.Promises.{Merges}
use Rattle.quotient.specs.Refining.{Parted, Sound, Stable}
use Rattle.quotient.proofs.Members.{size_nothing}
use Rattle.quotient.proofs.Merging.{merges}
use Rattle.quotient.proofs.Lent.{rest_room}
use Rattle.quotient.proofs.smaller.merge_game.Goals as goal

pub split_at_mut-parts-requires : goal.split_at_mut-parts-requires
split_at_mut-parts-requires c = omega (arith, rest_room c.lay_out-graph.ensures c.args.accepted.enough _ c.lay_out-graph.ensures.is c.len-count.ensures.playable c.len-count.result c.len-count.ensures.len, c.split_at_mut-told.ensures.back_len)

pub split_at_mut-sizes-requires : goal.split_at_mut-sizes-requires
split_at_mut-sizes-requires c = omega (arith, rest_room c.lay_out-graph.ensures c.args.accepted.enough _ c.lay_out-graph.ensures.is c.len-count.ensures.playable c.len-count.result c.len-count.ensures.len, c.split_at_mut-told.ensures.back_len, c.split_at_mut-parts.ensures.back_len)

pub split_at_mut-fresh-requires : goal.split_at_mut-fresh-requires
split_at_mut-fresh-requires c = omega (arith, rest_room c.lay_out-graph.ensures c.args.accepted.enough _ c.lay_out-graph.ensures.is c.len-count.ensures.playable c.len-count.result c.len-count.ensures.len, c.split_at_mut-told.ensures.back_len, c.split_at_mut-parts.ensures.back_len, c.split_at_mut-sizes.ensures.back_len)

pub split_at_mut-list-requires : goal.split_at_mut-list-requires
split_at_mut-list-requires c = omega (arith, rest_room c.lay_out-graph.ensures c.args.accepted.enough _ c.lay_out-graph.ensures.is c.len-count.ensures.playable c.len-count.result c.len-count.ensures.len, c.split_at_mut-told.ensures.back_len, c.split_at_mut-parts.ensures.back_len, c.split_at_mut-sizes.ensures.back_len, c.split_at_mut-fresh.ensures.back_len)

pub split_at_mut-made-requires : goal.split_at_mut-made-requires
split_at_mut-made-requires c = omega (arith, rest_room c.lay_out-graph.ensures c.args.accepted.enough _ c.lay_out-graph.ensures.is c.len-count.ensures.playable c.len-count.result c.len-count.ensures.len, c.split_at_mut-told.ensures.back_len, c.split_at_mut-parts.ensures.back_len, c.split_at_mut-sizes.ensures.back_len, c.split_at_mut-fresh.ensures.back_len, c.split_at_mut-list.ensures.back_len)

pub split_at_mut-heads-requires : goal.split_at_mut-heads-requires
split_at_mut-heads-requires c = omega (arith, rest_room c.lay_out-graph.ensures c.args.accepted.enough _ c.lay_out-graph.ensures.is c.len-count.ensures.playable c.len-count.result c.len-count.ensures.len, c.split_at_mut-told.ensures.back_len, c.split_at_mut-parts.ensures.back_len, c.split_at_mut-sizes.ensures.back_len, c.split_at_mut-fresh.ensures.back_len, c.split_at_mut-list.ensures.back_len, c.split_at_mut-made.ensures.back_len)

pub split_at_mut-links-requires : goal.split_at_mut-links-requires
split_at_mut-links-requires c = omega (arith, rest_room c.lay_out-graph.ensures c.args.accepted.enough _ c.lay_out-graph.ensures.is c.len-count.ensures.playable c.len-count.result c.len-count.ensures.len, c.split_at_mut-told.ensures.back_len, c.split_at_mut-parts.ensures.back_len, c.split_at_mut-sizes.ensures.back_len, c.split_at_mut-fresh.ensures.back_len, c.split_at_mut-list.ensures.back_len, c.split_at_mut-made.ensures.back_len, c.split_at_mut-heads.ensures.back_len)

pub split_at_mut-out-requires : goal.split_at_mut-out-requires
split_at_mut-out-requires c = omega (arith, rest_room c.lay_out-graph.ensures c.args.accepted.enough _ c.lay_out-graph.ensures.is c.len-count.ensures.playable c.len-count.result c.len-count.ensures.len, c.split_at_mut-told.ensures.back_len, c.split_at_mut-parts.ensures.back_len, c.split_at_mut-sizes.ensures.back_len, c.split_at_mut-fresh.ensures.back_len, c.split_at_mut-list.ensures.back_len, c.split_at_mut-made.ensures.back_len, c.split_at_mut-heads.ensures.back_len, c.split_at_mut-links.ensures.back_len)

pub settle-requires-clause-empty : goal.settle-requires-clause-empty
settle-requires-clause-empty c = size_nothing c.clear.new.set c.clear.ensures

pub settle-requires-clause-none_out : goal.settle-requires-clause-none_out
settle-requires-clause-none_out c = size_nothing c.clear-2.new.set c.clear-2.ensures

pub returns : goal.returns
returns c =
    let told = c.settle.new.told in
    let words = length c.settle.new.groups.set.now in
    let same : c.lay_out-graph.result.graph ≡ c.places-places.result.now = sym c.places-places.ensures in
    let is : c.places-places.result.now ≡ c.args.accepted.game = c.places-places.ensures ∙ c.lay_out-graph.ensures.is in
    subst (λ (g : Game). Merges g c.args.to.now c.args.smaller.now c.number-count.new.numbers c.write.new.words c.write.result) is
    (merges (subst (λ (g : Game). Parted g told words) same c.settle.ensures.parted) (subst (λ (g : Game). Sound g told) same c.settle.ensures.sound) (subst (λ (g : Game). Stable g told) same c.settle.ensures.stable)
    c.number-count.new.numbers c.number-count.ensures.numbered c.write.ensures.written (omega arith) (omega arith) c.number-count.ensures.behind)
