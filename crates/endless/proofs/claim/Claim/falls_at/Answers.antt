use Rattle.std.proofs.Common.{◌<◌, length, rules}
use Rattle.std.proofs.lemmas.Iterator.{YieldsList-from_slice, cases_from_all}
use Rattle.endless.specs.Says.{goes}
use Rattle.endless.specs.Sides.{number}
use Rattle.endless.specs.Bits.{members}
use Rattle.endless.proofs.Falling.{Along, along_all}
use Rattle.endless.proofs.claim.Claim.falls_at.Goals as goal

pub returns : goal.returns
returns c =
    let claim = c.args.self.now in
    along_all claim.graph.now (members claim.set.now) (number claim.side) (goes claim.answer.now) c.args.heaviest c.args.ranks.now c.args.place c.moves.result.now c.moves.ensures.moves claim.inside _ c.all.result
    (cases_from_all c.all.new.self _ c.all.result (λ m. m < length claim.graph.now → Along claim.graph.now (members claim.set.now) (number claim.side) (goes claim.answer.now) c.args.heaviest c.args.ranks.now c.args.place m) (λ m. Unit {0}) c.all.ensures.ran (YieldsList-from_slice c.moves.result.now cc) (λ x q k. search rules) (λ x q k. tt))
