use Rattle.std.proofs.Common.{length, take, refl, arith}
use Rattle.std.proofs.lemmas.Iterator.Consumers.{YieldsList-turn, YieldsList-end}
use Rattle.std.proofs.lemmas.List.{length_push}
use Rattle.std.proofs.lemmas.Result.{err_from_is_err_and}
use Rattle.drawing.specs.Reading.{lines}
use Rattle.drawing.specs.Telling.{told_on}
use Rattle.drawing.proofs.Lines.{numbered_lines, Turn, turn_of, all_turned}
use Rattle.drawing.proofs.Tellings.{told_all, told_more, told_wrong}
use Rattle.drawing.proofs.answer.tell_all.Goals as goal
use Rattle.drawing.proofs.answer.tell_all.Goals.{In-Some}

turn : (c : In-Some) → Turn (lines c.args.text.now) (length c.loop-number.yielded) c.in-Some.number c.in-Some.line.now
turn c =
    turn_of (lines c.args.text.now) (length c.loop-number.yielded) c.in-Some.number c.in-Some.line.now
    (YieldsList-turn (numbered_lines (λ r. r.start) c.args.text.now (omega arith) c.into_iter-number-iterator.ensures.into_iter_gives c.zip-number-items.ensures.first c.zip-number-items.ensures.second refl c.split.ensures.text c.split.ensures.has_more c.split.ensures.pattern) c.loop-number.yielded c.loop-number.number-iterator c.loop-number.yielded_by c.next.result c.next.new.self (c.in-Some.number, c.in-Some.line) c.in-Some.is c.next.ensures.steps)

pub loop-number-preserved : goal.loop-number-preserved
loop-number-preserved c =
    told_more c.args.names.now (lines c.args.text.now) (length c.loop-number.yielded) c.in-Some.number c.in-Some.line.now (turn (goal.at.loop-number-preserved c).In-Some) c.loop-number.claims _ c.loop-number.invariant (c.in_ok-tell.ensures (told_on (take (length c.loop-number.yielded) (lines c.args.text.now))) c.loop-number.invariant.tabled) _ (length_push c.loop-number.yielded (c.in-Some.number, c.in-Some.line))

pub returns-in_err-tell : goal.returns-in_err-tell
returns-in_err-tell c =
    let p = err_from_is_err_and c.from_residual-in_err-tell.result c.from_residual-in_err-tell.ensures.1 in
    rw (p.1, p.2) (told_wrong c.args.text.now c.args.names.now (length c.loop-number.yielded) c.in-Some.number c.in-Some.line.now (turn (goal.at.returns-in_err-tell c).In-Some) _ (c.in_err-tell.ensures (told_on (take (length c.loop-number.yielded) (lines c.args.text.now))) c.loop-number.invariant.tabled))

pub returns : goal.returns
returns c =
    let ended = YieldsList-end (numbered_lines (λ r. r.start) c.args.text.now (omega arith) c.into_iter-number-iterator.ensures.into_iter_gives c.zip-number-items.ensures.first c.zip-number-items.ensures.second refl c.split.ensures.text c.split.ensures.has_more c.split.ensures.pattern) c.loop-number.yielded c.loop-number.number-iterator c.loop-number.yielded_by c.next.result c.next.new.self c.in-None.is c.next.ensures.steps in
    told_all c.args.names.now (lines c.args.text.now) (length c.loop-number.yielded) c.loop-number.claims c.loop-number.invariant (all_turned (lines c.args.text.now) (length c.loop-number.yielded) ended.1)
