use Rattle.std.proofs.Common.{[], length, refl, arith}
use Rattle.std.proofs.lemmas.Iterator.Consumers.{YieldsList-turn, YieldsList-end}
use Rattle.std.proofs.lemmas.List.{length_push}
use Rattle.std.proofs.lemmas.Result.{err_from_is_err_and}
use Rattle.drawing.specs.Reading.{lines, held, name_line, name_lines}
use Rattle.drawing.proofs.Lines.{numbered_lines, turn_of, all_turned, names_more, names_err, names_end}
use Rattle.drawing.proofs.Refusing.{refuses_on}
use Rattle.drawing.proofs.gather.gather_names.Goals as goal

pub loop-number-preserved : goal.loop-number-preserved
loop-number-preserved c =
    let turned = YieldsList-turn (numbered_lines (λ r. r.start) c.args.text.now (omega arith) c.into_iter-number-iterator.ensures.into_iter_gives c.zip-number-items.ensures.first c.zip-number-items.ensures.second refl c.split.ensures.text c.split.ensures.has_more c.split.ensures.pattern) c.loop-number.yielded c.loop-number.number-iterator c.loop-number.yielded_by c.next.result c.next.new.self (c.in-Some.number, c.in-Some.line) c.in-Some.is c.next.ensures.steps in
    let turn = turn_of (lines c.args.text.now) (length c.loop-number.yielded) c.in-Some.number c.in-Some.line.now turned in
    names_more c.args.kind (lines c.args.text.now) (length c.loop-number.yielded) c.loop-number.names _ c.loop-number.invariant c.in-Some.number c.in-Some.line.now turn _ _ (length_push c.loop-number.yielded (c.in-Some.number, c.in-Some.line)) c.in_ok-name_line.ensures

pub returns-in_err-name_line : goal.returns-in_err-name_line
returns-in_err-name_line c =
    let turned = YieldsList-turn (numbered_lines (λ r. r.start) c.args.text.now (omega arith) c.into_iter-number-iterator.ensures.into_iter_gives c.zip-number-items.ensures.first c.zip-number-items.ensures.second refl c.split.ensures.text c.split.ensures.has_more c.split.ensures.pattern) c.loop-number.yielded c.loop-number.number-iterator c.loop-number.yielded_by c.next.result c.next.new.self (c.in-Some.number, c.in-Some.line) c.in-Some.is c.next.ensures.steps in
    let turn = turn_of (lines c.args.text.now) (length c.loop-number.yielded) c.in-Some.number c.in-Some.line.now turned in
    let p = err_from_is_err_and c.from_residual.result c.from_residual.ensures.1 in
    rw (p.1, p.2) (refuses_on (name_line (c.in-Some.number) c.loop-number.names (held c.args.kind c.in-Some.line.now)) (name_lines c.args.kind 1 [] (lines c.args.text.now)) (λ y e. names_err c.args.kind (lines c.args.text.now) (length c.loop-number.yielded) c.loop-number.names _ c.loop-number.invariant c.in-Some.number c.in-Some.line.now turn y e) _ c.in_err-name_line.ensures)

pub returns : goal.returns
returns c =
    let ended = YieldsList-end (numbered_lines (λ r. r.start) c.args.text.now (omega arith) c.into_iter-number-iterator.ensures.into_iter_gives c.zip-number-items.ensures.first c.zip-number-items.ensures.second refl c.split.ensures.text c.split.ensures.has_more c.split.ensures.pattern) c.loop-number.yielded c.loop-number.number-iterator c.loop-number.yielded_by c.next.result c.next.new.self c.in-None.is c.next.ensures.steps in
    names_end c.args.kind (lines c.args.text.now) (length c.loop-number.yielded) c.loop-number.names _ c.loop-number.invariant (all_turned (lines c.args.text.now) (length c.loop-number.yielded) ended.1)
