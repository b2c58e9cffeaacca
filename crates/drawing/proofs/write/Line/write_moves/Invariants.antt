use Rattle.std.proofs.Common.{◌≡◌, ℕ, List, Ok}
use Rattle.drawing.specs.Form.{names_of}
use Rattle.drawing.specs.Lexed.{left}
use Rattle.drawing.proofs.Moving.{LeftOver}
use Rattle.drawing.proofs.write.Line.write_moves.Given as goal

abbrev pub invariant-loop-token : goal.invariant-loop-token
invariant-loop-token l = (ms : List (List ℕ)) → names_of (left l.moves) ≡ Ok ms → LeftOver l.self.number l.self.names.now l.initial.words.items ms l.words.items (left l.token-iterator)
