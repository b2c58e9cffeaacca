-- What an answer claims, as lists.
use Rattle.std.specs.Prelude.{◌≡◌, ℕ, List, length, map, ◌≢◌}
use Rattle.std.specs.List.{zip}
use Rattle.allplans.specs.declared.answer.Claim.{Claim}
use Rattle.allplans.specs.declared.checker.Refusal.{Refusal}
use Rattle.allplans.specs.declared.checker.Refusal.TheVariants.{Wrong, Fault}
use Rattle.allplans.specs.declared.checker.Wrong.TheVariants.{Short}
use Rattle.allplans.specs.declared.fault.Fault.TheVariants.{NoMemory}

-- of each place the winner
abbrev pub winners : List Claim → List ℕ
winners claims = map (λ c. c.winner) claims

-- of each place where the winner's plan goes
abbrev pub plan : List Claim → List ℕ
plan claims = map (λ c. c.goes) claims

-- the claims in two lists
abbrev pub claims_of : List ℕ → List ℕ → List Claim
claims_of won goes = map (λ (p : ℕ × ℕ). record { winner = p.0; goes = p.1 }) (zip won goes)

-- these claims are those of two lists
abbrev pub Paired : List ℕ → List ℕ → List Claim → Type 0
Paired won goes claims = (winners claims ≡ won) × (plan claims ≡ goes)

-- why two lists are no answer: they are of unequal length, or there is no memory
abbrev pub Unpaired : List ℕ → List ℕ → Refusal → Type 0
Unpaired won goes (Wrong w) = (length won ≢ length goes) × (w ≡ Short)
Unpaired won goes (Fault f) = (length won ≡ length goes) × (f ≡ NoMemory)
