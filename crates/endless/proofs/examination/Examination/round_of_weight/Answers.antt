use Rattle.std.proofs.Common.{rules}
use Rattle.endless.specs.Says.{goes}
use Rattle.endless.specs.Bits.{members}
use Rattle.endless.specs.Sides.{number}
use Rattle.endless.specs.Flaws.{NoRoundOf}
use Rattle.endless.proofs.Falling.{no_walk}
use Rattle.endless.proofs.examination.Examination.round_of_weight.Goals as goal

pub returns-in_err-place-clause-found : goal.returns-in_err-place-clause-found
returns-in_err-place-clause-found c =
    let claim = c.args.self.now.claim in
    let none : NoRoundOf claim.graph.now (members claim.set.now) (number claim.side) (goes claim.answer.now) c.args.heaviest = λ n x. no_walk claim.graph.now (members claim.set.now) (number claim.side) (goes claim.answer.now) c.args.heaviest c.propose.new.ranks c.in_err-place.ensures n in
    search rules
