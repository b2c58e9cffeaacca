use Rattle.std.proofs.Common.{[], ◌∷◌, length, refl, arith}
use Rattle.std.proofs.lemmas.Iterator.Consumers.{YieldsList-turn, YieldsList-end}
use Rattle.std.proofs.lemmas.List.{length_push}
use Rattle.std.proofs.lemmas.Result.{err_from_is_err_and}
use Rattle.drawing.specs.Reading.{lines, held, word_line, word_lines}
use Rattle.drawing.proofs.Lines.{numbered_lines, turn_of, all_turned, words_more, words_err, words_end}
use Rattle.drawing.proofs.Refusing.{refuses_on}
use Rattle.drawing.proofs.write.write_words.Goals as goal

pub returns-in_err-used : goal.returns-in_err-used
returns-in_err-used c =
    let turned = YieldsList-turn (numbered_lines (λ r. r.start) c.args.text.now (omega arith) c.into_iter-number-iterator.ensures.into_iter_gives c.zip-number-items.ensures.first c.zip-number-items.ensures.second refl c.split.ensures.text c.split.ensures.has_more c.split.ensures.pattern) c.loop-number.yielded c.loop-number.number-iterator c.loop-number.yielded_by c.next.result c.next.new.self (c.in-Some.number, c.in-Some.line) c.in-Some.is c.next.ensures.steps in
    let turn = turn_of (lines c.args.text.now) (length c.loop-number.yielded) c.in-Some.number c.in-Some.line.now turned in
    let p = err_from_is_err_and c.from_residual-in_err-used.result c.from_residual-in_err-used.ensures.1 in
    rw (p.1, p.2) (refuses_on (word_line (c.in-Some.number) c.args.names.now c.loop-number.used c.loop-number.words.items (held c.args.kind c.in-Some.line.now)) (word_lines c.args.kind 1 c.args.names.now 0 (length c.args.names.now ∷ []) (lines c.args.text.now))
    (λ y e. words_err c.args.kind (lines c.args.text.now) (length c.loop-number.yielded) c.args.names.now c.loop-number.used c.loop-number.words.items _ c.loop-number.invariant.so_far c.in-Some.number c.in-Some.line.now turn y e) _ c.in_err-used.ensures)

pub loop-number-preserved : goal.loop-number-preserved
loop-number-preserved c =
    let turned = YieldsList-turn (numbered_lines (λ r. r.start) c.args.text.now (omega arith) c.into_iter-number-iterator.ensures.into_iter_gives c.zip-number-items.ensures.first c.zip-number-items.ensures.second refl c.split.ensures.text c.split.ensures.has_more c.split.ensures.pattern) c.loop-number.yielded c.loop-number.number-iterator c.loop-number.yielded_by c.next.result c.next.new.self (c.in-Some.number, c.in-Some.line) c.in-Some.is c.next.ensures.steps in
    let turn = turn_of (lines c.args.text.now) (length c.loop-number.yielded) c.in-Some.number c.in-Some.line.now turned in
    record {
      few = c.in_ok-used.ensures.0;
      so_far = words_more c.args.kind (lines c.args.text.now) (length c.loop-number.yielded) c.args.names.now c.loop-number.used c.loop-number.words.items _ c.loop-number.invariant.so_far c.in-Some.number c.in-Some.line.now turn c.in_ok-used.used c.write.new.words.items _ (length_push c.loop-number.yielded (c.in-Some.number, c.in-Some.line)) c.in_ok-used.ensures.1;
    }

pub returns : goal.returns
returns c =
    let ended = YieldsList-end (numbered_lines (λ r. r.start) c.args.text.now (omega arith) c.into_iter-number-iterator.ensures.into_iter_gives c.zip-number-items.ensures.first c.zip-number-items.ensures.second refl c.split.ensures.text c.split.ensures.has_more c.split.ensures.pattern) c.loop-number.yielded c.loop-number.number-iterator c.loop-number.yielded_by c.next.result c.next.new.self c.in-None.is c.next.ensures.steps in
    words_end c.args.kind (lines c.args.text.now) (length c.loop-number.yielded) c.args.names.now c.loop-number.used c.loop-number.words.items _ c.loop-number.invariant.so_far (all_turned (lines c.args.text.now) (length c.loop-number.yielded) ended.1)
