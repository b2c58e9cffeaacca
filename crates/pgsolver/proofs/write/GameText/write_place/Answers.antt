use Rattle.std.proofs.Common.{◌<◌, refl, sym, subst, arith}
use Rattle.std.specs.Fmt.{HasWritten}
use Rattle.std.specs.List.{All}
use Rattle.std.proofs.Output.{has_written_append}
use Rattle.pgsolver.proofs.Writing.{within, place_is}
use Rattle.pgsolver.proofs.write.GameText.write_place.Goals as goal

pub write_successors-requires : goal.write_successors-requires
write_successors-requires g c = subst (λ k. All (λ m. m < k) c.moves.result.now) (sym c.args.self.each) (within c.moves.ensures.playable c.args.n c.moves.result.now c.moves.ensures.moves)

pub returns : goal.returns
returns g c p ok =
    let s = c.args.self in
    let head = c.in_ok-write.ensures.writes p refl in
    let goes = c.in_ok-write_successors.ensures head.plain refl in
    let name = c.in_ok-write_name.ensures goes.plain refl in
    let end = c.write_str.ensures.writes name.plain ok in
    let all = has_written_append _ _ _ _ _ _ (has_written_append _ _ _ _ _ _ (has_written_append _ _ _ _ _ _ head goes) name) end in
    let is = place_is s.named.now s.game.now c.args.n c.index-self-n.result c.head-head.result c.moves.result.now c.as_slice.result.now (omega arith) c.head-head.ensures.weight c.head-head.ensures.whose c.moves.ensures.moves c.as_slice.ensures.value in
    subst (λ l. HasWritten g.W.Write.write_str_gives c.args.f.now l c.write_str.new.self) is all
