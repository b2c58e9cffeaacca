use Rattle.std.proofs.Common.{◌-◌, ◌<◌, List, ℕ, ◌∷◌, length, drop, get_or, take, refl, sym, subst}
use Rattle.std.specs.Fmt.{HasWritten, decimal}
use Rattle.std.specs.List.{slice_index}
use Rattle.std.proofs.Output.{has_written_append}
use Rattle.pgsolver.specs.Ids.{ids_of}
use Rattle.pgsolver.proofs.Calling.{id_of}
use Rattle.pgsolver.proofs.Writing.{successors_more, later_within}
use Rattle.pgsolver.proofs.write.write_successors.Goals as goal

pub loop-to-preserved : goal.loop-to-preserved
loop-to-preserved g c = λ p.
    let named = c.args.named.now in
    let rest : List ℕ = take (length c.args.moves.now - 1) (drop 1 c.args.moves.now) in
    let k = c.loop-to.to-index in
    let to = get_or rest k 0 in
    let low : to < length named = later_within (length named) c.args.moves.now k c.requires c.loop-to-test.true in
    let before = c.loop-to.invariant p in
    let next = c.in_ok-write-2.ensures.writes before.plain refl in
    let all = has_written_append _ _ _ _ _ _ before (subst (λ id. HasWritten g.W.Write.write_str_gives c.loop-to.f (44 ∷ decimal id) c.write-in-loop-to.new.self) (sym (id_of named to c.index-named-to.result low)) next) in
    subst (λ l. HasWritten g.W.Write.write_str_gives c.args.f.now l c.write-in-loop-to.new.self) (sym (successors_more (slice_index (ids_of named)) (get_or c.args.moves.now 0 0) rest k 0 c.loop-to-test.true)) all
