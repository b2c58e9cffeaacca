use Rattle.std.specs.List.{flat_map, range_with_len}
use Rattle.std.specs.Fmt.{HasWritten, IsPlainFormatter}
use Rattle.dot.specs.Pictures.{bold, edge_at}
use Rattle.dot.proofs.picture.Picture.write_place.Given as goal

-- the moves so far are written
abbrev pub invariant-loop-i : goal.invariant-loop-i
invariant-loop-i g l = IsPlainFormatter l.initial.f → HasWritten g.W.Write.write_str_gives l.initial.f (flat_map (edge_at (bold l.self.bold l.self.places.now l.self.answer.now) l.self.places.now l.n) (range_with_len 0 l.i)) l.f
