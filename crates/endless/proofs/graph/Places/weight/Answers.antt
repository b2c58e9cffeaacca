use Rattle.std.proofs.Common.{get_or, ap, ◌∙◌, arith}
use Rattle.endless.proofs.Places.{weight_below}
use Rattle.endless.proofs.Reading.{front_weighs}
use Rattle.endless.proofs.graph.Places.weight.Goals as goal

pub returns : goal.returns
returns c =
    let is = ap (λ l. get_or l 1 0) c.words_from.ensures.are ∙ front_weighs c.args.self.now c.args.n c.requires in
    record { weight = is; light = omega (arith, is, weight_below c.words_from.ensures.playable c.args.n) }
