-- The parts that moves lead into, as bits: put into a set, and taken out.
use Rattle.std.specs.Prelude.{◌≡◌, ℕ, ◌+◌, ◌<◌, ◌≤◌, ◌⊎◌, List, length, slice_index}
use Rattle.endless.specs.Sets.{In}
use Rattle.endless.specs.Bits.{members, size}

-- one of these moves leads into part q, where `parts` has the part of each place
abbrev pub Into : List ℕ → List ℕ → ℕ → Type 0
Into ms parts q = (k : ℕ) × (k < length ms) × (slice_index parts (slice_index ms k) ≡ q)

-- the parts came to the set, so many that it did not have, and nothing else did
pub record Gathered (ms parts set set' : List ℕ) (count : ℕ) : Type 0 where
  pub came : (q : ℕ) → Into ms parts q → In (members set') q
  pub which : (q : ℕ) → In (members set') q → In (members set) q ⊎ Into ms parts q
  pub many : size set' ≡ size set + count
  pub few : count ≤ length ms

-- the parts went out of the set, and nothing came
pub record Released (ms parts set set' : List ℕ) : Type 0 where
  pub was : (q : ℕ) → In (members set') q → In (members set) q
  pub gone : (q : ℕ) → Into ms parts q → In (members set') q → ⊥

-- nothing is in the set
abbrev pub Nothing : List ℕ → Type 0
Nothing set = (q : ℕ) → In (members set) q → ⊥
