use Rattle.std.proofs.Common.{◌≡◌}
use Rattle.endless.specs.Games.{weight}
use Rattle.endless.specs.Says.{goes}
use Rattle.endless.specs.Sides.{number}
use Rattle.endless.specs.Bits.{members}
use Rattle.endless.specs.Listed.{members_left}
use Rattle.endless.specs.Flaws.{Walk}
use Rattle.endless.proofs.Behind.{Behind}
use Rattle.endless.proofs.examination.Examination.search_each.Given as goal

abbrev pub invariant-loop-place : goal.invariant-loop-place
invariant-loop-place l =
    (l.self.claim ≡ l.claim) ×
    Behind l.claim.set.now (λ n. weight l.claim.graph.now n ≡ l.heaviest → Walk l.claim.graph.now (members l.claim.set.now) (number l.claim.side) (goes l.claim.answer.now) l.heaviest n n → ⊥) (members_left l.place-iterator)
