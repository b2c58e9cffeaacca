use Rattle.std.proofs.Common.{eqb, get_or, ap, ◌∙◌, ap₂}
use Rattle.endless.proofs.Reading.{front_owner}
use Rattle.endless.proofs.graph.Places.is_own.Goals as goal

pub returns : goal.returns
returns c = ap₂ eqb (ap (λ l. get_or l 0 0) c.words_from.ensures.are ∙ front_owner c.args.self.now c.args.n c.requires) c.from.ensures
