use Rattle.std.proofs.Common.{ℕ, ◌≤◌, List, ◌∙◌, subst}
use Rattle.endless.specs.Bits.{size}
use Rattle.endless.proofs.Parts.{listing_few}
use Rattle.endless.proofs.closed.Growing.reach.Goals as goal

pub returns-clause-few : goal.returns-clause-few
returns-clause-few c = subst (λ (t : List ℕ). c.close.new.self.count ≤ size t) (c.close.ensures.grown.same.set ∙ c.take.ensures.grown.same.set ∙ c.clear.ensures.same.set) (listing_few c.close.new.self.spacious.same c.close.ensures.grown.lists)
