use Rattle.std.proofs.Common.{map, string_bytes, [], ◌∷◌, ◌++◌, refl, ◌∙◌}
use lib.Utf8.{encode}
use Rattle.std.specs.List.{flat_map}
use Rattle.std.proofs.Output.{has_written_append, has_written_of_eq}
use Rattle.endless.specs.Graph.{moves}
use Rattle.drawing.specs.Sheets.{before_moves, move_text, line_text}
use Rattle.drawing.proofs.Rows.{in_parts}
use Rattle.drawing.proofs.sheet.Sheet.write_line.Goals as goal

pub returns : goal.returns
unfolding encode line_text
returns g c = λ p ok.
    let goes = flat_map (move_text (map string_bytes c.args.self.names.now)) (moves c.args.self.places.now c.args.n) in
    let before = c.in_ok-write.ensures.writes p refl in
    let moved = c.in_ok-write_moves.ensures before.plain refl in
    let all = has_written_append _ _ _ _ _ _ before (has_written_append _ _ _ _ _ _ moved (c.write_char.ensures.writes moved.plain ok)) in
    has_written_of_eq _ _ _ _ _ (in_parts c.name-name.result.0.now c.from-side.result c.head-head.result.weight goes ∙ (λ i. before_moves (c.name-name.ensures i) ((c.from-side.ensures ∙ c.head-head.ensures.whose) i) (c.head-head.ensures.weight i) goes ++ (10 ∷ []))) all
