-- What is claimed of places by their numbers.
use Rattle.std.specs.Prelude.{◌≡◌, ℕ, ◌+◌, ◌*◌, List, length, Some, None, Ok, Err, Option, Result, Vec, vec_items, slice_get, slice_index}
use Rattle.std.specs.Option.{unwrap_or}
use Rattle.std.specs.declared.alloc.Global.{Global}
use Rattle.endless.specs.Sides.{number}
use Rattle.claims.specs.Answered.{Told, Goes, Only}
use Rattle.claims.specs.declared.Claim.{Claim}
use Rattle.claims.specs.declared.NoWords.{NoWords}
use Rattle.claims.specs.declared.NoWords.TheVariants.{Unclaimed, Memory}

-- the two words of place i are those of the claim
pub record Words (words : List ℕ) (i : ℕ) (c : Claim) : Type 0 where
  pub side : slice_index words (2 * i) ≡ number c.winner
  pub goes : slice_index words (2 * i + 1) ≡ unwrap_or c.goal 4294967295

-- something is claimed of each place, and the words are those of the claims
pub record Worded (claims : List (Option Claim)) (words : List ℕ) : Type 0 where
  pub many : length words ≡ 2 * length claims
  pub each : (i : ℕ) (o : Option Claim) → slice_get claims i ≡ Some o → (c : Claim) × (o ≡ Some c) × Words words i c

abbrev pub Wording : List (Option Claim) → Result (Vec ℕ Global) NoWords → Type 0
Wording claims (Ok v) = Worded claims (vec_items v)
Wording claims (Err (Unclaimed i)) = slice_get claims i ≡ Some None
Wording claims (Err Memory) = Unit {0}

-- the claim of place i is what is told
pub record Meant {K : Type 0} (names : List K) (i : ℕ) (c : Claim) (t : Told K) : Type 0 where
  pub place : slice_get names i ≡ Some t.named
  pub side : number c.winner ≡ t.side
  pub goes : Goes names t.goes (unwrap_or c.goal 4294967295)

-- the claims are those that are told so far, and of each place that has one just one is told
pub record Tabled {K : Type 0} (names : List K) (ts : List (Told K)) (claims : List (Option Claim)) : Type 0 where
  pub many : length claims ≡ length names
  pub told : (j : ℕ) (t : Told K) → slice_get ts j ≡ Some t → (i : ℕ) × (c : Claim) × (slice_get claims i ≡ Some (Some c)) × Meant names i c t
  pub only : (i : ℕ) (c : Claim) (x : K) → slice_get claims i ≡ Some (Some c) → slice_get names i ≡ Some x → (j : ℕ) × Only ts x j
