use Rattle.std.proofs.Common.{arith}
use Rattle.moves.proofs.Solving.{answered, is_ok_of, same_room}
use Rattle.moves.proofs.solved.answer_to.Goals as goal

pub unwrap-requires : goal.unwrap-requires
unwrap-requires c = let t = c.requires.game in is_ok_of (answered t.0 t.1 t.2 (omega arith) c.requires.lent c.solve.result c.solve.ensures).0

pub returns : goal.returns
returns c = λ g r.
    let t = c.requires.game in
    (answered g r (same_room t.1 r t.2) (omega arith) c.requires.lent c.solve.result c.solve.ensures).1
