use Rattle.std.proofs.Common.{length, ap, arith}
use Rattle.moves.proofs.Lists.{length_origins}
use Rattle.moves.proofs.Marks.{begun_is, marking_answer, marked_all}
use Rattle.moves.proofs.mark_solved.Goals as goal

pub begin-requires-clause-room : goal.begin-requires-clause-room
begin-requires-clause-room c = let s = c.args.solved in omega (arith, length_origins 0 s.places.now, ap length s.from_are, c.requires.room, c.len-places.ensures.len)

pub returns-clause-marked : goal.returns-clause-marked
returns-clause-marked c =
    let s = c.args.solved in
    let answer = c.requires.answer in
    let begun = begun_is s.answer.now c.len-places.result (length s.from.now) c.len-places.ensures.len (omega (arith, length_origins 0 s.places.now, ap length s.from_are)) answer.long c.begin.ensures.winners c.begin.ensures.none c.begin.ensures.behind in
    marked_all answer (c.try_moves.ensures c.args.out.now (marking_answer answer begun c.mark_plan.ensures c.mark_plan-2.ensures))

pub returns-clause-behind : goal.returns-clause-behind
returns-clause-behind c =
    let s = c.args.solved in
    let answer = c.requires.answer in
    let begun = begun_is s.answer.now c.len-places.result (length s.from.now) c.len-places.ensures.len (omega (arith, length_origins 0 s.places.now, ap length s.from_are)) answer.long c.begin.ensures.winners c.begin.ensures.none c.begin.ensures.behind in
    (c.try_moves.ensures c.args.out.now (marking_answer answer begun c.mark_plan.ensures c.mark_plan-2.ensures)).behind
