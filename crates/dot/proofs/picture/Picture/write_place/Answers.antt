use Rattle.std.proofs.Common.{rules, ◌≡◌, ◌+◌, get_or, ap}
use Rattle.std.proofs.Output.{has_written_append, has_written_of_eq}
use Rattle.moves.specs.Moves.{mark}
use Rattle.moves.specs.Marking.{before}
use Rattle.endless.specs.Graph.{moves}
use Rattle.dot.specs.Pictures.{mark_words, is_bold, bold, edge_line, edge_at}
use Rattle.drawing.proofs.Rows.{one_more}
use Rattle.dot.proofs.Marks.{mark_here}
use Rattle.dot.proofs.picture.Picture.write_place.Goals as goal

pub loop-i-preserved : goal.loop-i-preserved
loop-i-preserved g c = λ p.
    let game = c.args.self.places.now in
    let o = c.args.self.answer.now in
    let b = c.args.self.bold in
    let to : get_or c.moves-m-items.result.now c.loop-i.i 0 ≡ get_or (moves game c.args.n) c.loop-i.i 0 = ap (λ l. get_or l c.loop-i.i 0) c.moves-m-items.ensures.moves in
    let marked : c.unwrap_or-mark.result ≡ mark game (mark_words b) (before game c.args.n + c.loop-i.i) = mark_here game (mark_words b) c.args.marks.now c.args.n c.requires.marks c.loop-i.i _ (search rules) in
    has_written_of_eq _ _ _ _ _ (one_more (edge_at (bold b game o) game c.args.n) c.loop-i.i)
    (has_written_append _ _ _ _ _ _ (c.loop-i.invariant p)
    (has_written_of_eq _ _ _ _ _ (λ k. edge_line c.args.n (to k) (is_bold b game o c.args.n (to k) (marked k))) (search rules)))
