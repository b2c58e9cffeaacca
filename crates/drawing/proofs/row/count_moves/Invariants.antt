use Rattle.std.proofs.Common.{◌≡◌, ◌+◌, ◌≤◌, length}
use Rattle.drawing.specs.Form.{names_of}
use Rattle.drawing.specs.Lexed.{left}
use Rattle.drawing.specs.Rows.{lengths}
use Rattle.drawing.proofs.Counts.{plus}
use Rattle.drawing.proofs.row.count_moves.Given as goal

abbrev pub invariant-loop-token : goal.invariant-loop-token
invariant-loop-token l = record {
  few : l.count + length (left l.token-iterator) ≤ length (left l.moves);
  counted : plus l.count (lengths (names_of (left l.token-iterator))) ≡ lengths (names_of (left l.moves));
}
