-- What each answer of `distances_to` promises.
use Rattle.std.proofs.Common.{◌≡◌, ℕ, ◌+◌, ◌*◌, ◌≤◌, Err, Result, List, length, arith}
use Rattle.endless.specs.declared.refusal.Refusal.{Refusal}
use Rattle.endless.specs.declared.refusal.Refusal.TheVariants.{Few}
use Rattle.distance.specs.Distances.{DistancesSays, DistancesPost}

-- enough are lent
pub said : {s : List ℕ} {lent w target : ℕ} {o o' : List ℕ} {r : Result (Unit {0}) Refusal} → 65536 + 4 * length s ≤ lent → (r ≡ Err Few → ⊥) → DistancesSays s w target o o' r → DistancesPost s lent w target o o' r
said enough other says = record { says = says; few = (λ x. absurd (omega arith), λ e. absurd (other e)) }
