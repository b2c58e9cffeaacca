use Rattle.std.proofs.Common.{◌≡◌, ℕ, ◌%◌, ◌<◌}
use Rattle.allplans.specs.Claims.{plan, winners}
use Rattle.allplans.specs.Rounds.{NoRound}
use Rattle.allplans.specs.Sides.{side_word}
use Rattle.allplans.proofs.checker.check_side.Given as goal

abbrev pub invariant-loop-heaviest : goal.invariant-loop-heaviest
invariant-loop-heaviest l = (k : ℕ) → k < l.heaviest → (k % 2 ≡ side_word l.side → ⊥) → NoRound l.claimed.places.now (winners l.claimed.claims.now) (plan l.claimed.claims.now) (side_word l.side) k
