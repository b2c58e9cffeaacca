use Rattle.std.proofs.Common.{sym, ◌∙◌, arith}
use Rattle.endless.specs.Says.{goes}
use Rattle.endless.specs.Bits.{members}
use Rattle.endless.specs.Sides.{number}
use Rattle.endless.proofs.Readers.{number_below}
use Rattle.endless.proofs.Losing.{found_loses, cleared_all}
use Rattle.endless.proofs.examination.Examination.losing_round.Goals as goal

pub returns-in-Some-clause-found : goal.returns-in-Some-clause-found
returns-in-Some-clause-found c =
    let claim = c.args.self.now.claim in
    found_loses claim.graph.now (members claim.set.now) (number claim.side) (goes claim.answer.now) c.loop-weight.weight c.in-Some.place (number_below claim.side) (λ e. c.if-weight-from.true (e ∙ sym c.from.ensures)) (rw (← c.loop-weight.invariant.0) c.in-Some.ensures.found)

pub returns-clause-found : goal.returns-clause-found
returns-clause-found c =
    let claim = c.args.self.now.claim in
    cleared_all (members claim.set.now) (number claim.side) (goes claim.answer.now) c.args.self.now.playable (λ k h. c.loop-weight.invariant.1 k (omega arith))
