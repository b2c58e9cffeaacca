use Rattle.std.proofs.Common.{◌≡◌, ◌+◌, length, drop, map, string_bytes}
use Rattle.std.specs.List.{flat_map, range_with_len}
use Rattle.std.specs.Fmt.{HasWritten, IsPlainFormatter}
use Rattle.moves.specs.Marking.{before}
use Rattle.dot.specs.Pictures.{mark_words, bold, place_lines}
use Rattle.dot.proofs.picture.PictureDisplay.fmt.Given as goal

-- the places so far are written, and the marks left are those of the others
abbrev pub invariant-loop-n : goal.invariant-loop-n
invariant-loop-n g l =
    (l.marks ≡ drop (length l.self.places.now + before l.self.places.now l.n) (mark_words l.self.bold))
    × (IsPlainFormatter l.initial.f → HasWritten g.W.Write.write_str_gives l.initial.f (flat_map (place_lines (bold l.self.bold l.self.places.now l.self.answer.now) l.self.places.now (map string_bytes l.self.names.now) l.self.answer.now) (range_with_len 0 l.n)) l.f)
