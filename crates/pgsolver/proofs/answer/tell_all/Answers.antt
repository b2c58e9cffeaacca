use Rattle.std.proofs.Common.{take}
use Rattle.std.proofs.lemmas.Result.{err_from_is_err_and}
use Rattle.pgsolver.specs.Answering.{told_by}
use Rattle.pgsolver.proofs.Tellings.{told_more, told_wrong}
use Rattle.pgsolver.proofs.answer.tell_all.Goals as goal

pub returns-in_err-tell : goal.returns-in_err-tell
returns-in_err-tell c =
    let p = err_from_is_err_and c.from_residual-in_err-tell.result c.from_residual-in_err-tell.ensures.1 in
    rw (p.1, p.2) (told_wrong c.args.text.now c.args.places.now c.args.verdicts.now c.loop-verdict.verdict-index _ _ c.loop-verdict-test.true (c.in_err-tell.ensures (told_by (take c.loop-verdict.verdict-index c.args.verdicts.now)) c.loop-verdict.invariant))

pub loop-verdict-preserved : goal.loop-verdict-preserved
loop-verdict-preserved c = told_more c.args.places.now c.args.verdicts.now c.loop-verdict.verdict-index _ c.tell.new.claims c.loop-verdict-test.true (c.in_ok-tell.ensures (told_by (take c.loop-verdict.verdict-index c.args.verdicts.now)) c.loop-verdict.invariant)
