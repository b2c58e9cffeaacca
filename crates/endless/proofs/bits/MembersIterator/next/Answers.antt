use Rattle.std.proofs.Common.{length, sym, ap, ◌∙◌, arith}
use Rattle.endless.proofs.MemberLists.{left_behind, end_left, lowest_left}
use Rattle.endless.proofs.bits.MembersIterator.next.Goals as goal

pub returns-in_err-word-clause-steps : goal.returns-in_err-word-clause-steps
returns-in_err-word-clause-steps c =
    let end = end_left c.loop-self.self.at c.loop-self.self.words.now c.loop-self-test.true c.in_err-word.ensures.cases in
    rw c.from_residual.ensures (sym c.loop-self.invariant.0 ∙ end, end)

pub loop-self-preserved : goal.loop-self-preserved
loop-self-preserved c =
    let words = c.in_ok-word.ensures.cases.0 in
    (sym (left_behind c.loop-self.self.at c.loop-self-test.true words) ∙ c.loop-self.invariant.0, omega (arith, c.loop-self.invariant.1, ap length words))

pub returns-clause-steps : goal.returns-clause-steps
returns-clause-steps c =
    let self = c.loop-self.self in
    sym c.loop-self.invariant.0 ∙ lowest_left self.at self.word self.words.now (omega arith) c.loop-self-test.false

pub returns-clause-goes : goal.returns-clause-goes
returns-clause-goes c =
    let self = c.loop-self.self in
    let is = sym c.loop-self.invariant.0 ∙ lowest_left self.at self.word self.words.now (omega arith) c.loop-self-test.false in
    record {
      on = λ _. (c.loop-self.invariant.1, tt, omega (arith, ap length is));
      keeps = c.loop-self.invariant.1;
      rests = λ _. tt;
    }
