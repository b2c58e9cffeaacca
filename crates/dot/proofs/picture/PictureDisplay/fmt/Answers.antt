use Rattle.std.proofs.Common.{length, map, string_bytes, rules, ap}
use Rattle.std.proofs.Output.{has_written_append, has_written_of_eq}
use Rattle.dot.specs.Pictures.{mark_words, bold, place_lines}
use Rattle.drawing.proofs.Rows.{one_more}
use Rattle.dot.proofs.Marks.{marks_behind}
use Rattle.dot.proofs.picture.PictureDisplay.fmt.Goals as goal

pub loop-n-preserved : goal.loop-n-preserved
loop-n-preserved g c =
    let game = c.args.self.now.places.now in
    let o = c.args.self.now.answer.now in
    let b = c.args.self.now.bold in
    let places = place_lines (bold b game o) game (map string_bytes c.args.self.now.names.now) o in (
      marks_behind game (mark_words b) c.loop-n.marks.now c.loop-n.n c.loop-n.invariant.0 (search rules) _ _ (ap length c.moves.ensures.moves) c.behind-marks-in-loop-n.ensures,
      λ p. has_written_of_eq _ _ _ _ _ (one_more places c.loop-n.n) (has_written_append _ _ _ _ _ _ (c.loop-n.invariant.1 p) (search rules)),
    )
