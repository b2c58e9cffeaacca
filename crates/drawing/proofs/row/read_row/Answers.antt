use Rattle.std.proofs.Common.{◌≡◌, ◌≤◌, suc, length, ap, arith}
use Rattle.drawing.specs.Form.{pieces}
use Rattle.drawing.specs.Lexed.{left}
use Rattle.drawing.proofs.Counts.{colon_fewer}
use Rattle.drawing.proofs.Pieces.{pieces_few}
use Rattle.drawing.proofs.row.read_row.Goals as goal

pub count_moves-requires : goal.count_moves-requires
count_moves-requires c =
    let all : length (left c.of-tokens.result) ≡ length (pieces c.args.line.now) = ap length c.of-tokens.ensures in
    let one : length (left c.of-tokens.result) ≡ suc (length (left c.next.new.self)) = ap length c.in-Some.ensures.steps in
    let two : length (left c.next.new.self) ≡ suc (length (left c.word.new.self)) = ap length c.in_ok-word.ensures in
    let three : length (left c.word.new.self) ≡ suc (length (left c.word-2.new.self)) = ap length c.in_ok-word-2.ensures in
    let four : length (left c.colon.new.self) ≤ length (left c.word-2.new.self) = colon_fewer _ _ c.in_ok-colon.ensures in
    omega (arith, pieces_few c.args.line.now)
