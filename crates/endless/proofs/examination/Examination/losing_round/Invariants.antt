use Rattle.std.proofs.Common.{◌≡◌, ℕ, ◌%◌, ◌<◌}
use Rattle.endless.specs.Says.{goes}
use Rattle.endless.specs.Sides.{number}
use Rattle.endless.specs.Bits.{members}
use Rattle.endless.specs.Flaws.{NoRoundOf}
use Rattle.endless.proofs.examination.Examination.losing_round.Given as goal

abbrev pub invariant-loop-weight : goal.invariant-loop-weight
invariant-loop-weight l = (l.self.claim ≡ l.claim) × ((k : ℕ) → k < l.weight → (k % 2 ≡ number l.claim.side → ⊥) → NoRoundOf l.claim.graph.now (members l.claim.set.now) (number l.claim.side) (goes l.claim.answer.now) k)
