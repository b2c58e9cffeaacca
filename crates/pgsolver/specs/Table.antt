-- Places looked up by ids.
use Rattle.std.specs.Prelude.{◌≡◌, ℕ, ◌<◌, ◌≤◌, ◌⊎◌, List, length, Some, None, Option, ◌≢◌, slice_index}
use Rattle.std.specs.BTreeMap.{BTreeMap, get, btree_map_len, ContainsKey, Updates}
use Rattle.std.specs.Option.{unwrap_or}
use Rattle.std.specs.Ordering.{nat_cmp}

abbrev pub Finds : List ℕ → ℕ → Option ℕ → Type 0
Finds ids x None = (i : ℕ) → i < length ids → slice_index ids i ≢ x
Finds ids x (Some i) = (i < length ids) × (slice_index ids i ≡ x)

-- the id gets i if it had none, and others keep theirs
abbrev pub Adds : BTreeMap ℕ ℕ → BTreeMap ℕ ℕ → ℕ → ℕ → Type 0
Adds m n x i = Updates nat_cmp m n x (Some (unwrap_or (get nat_cmp m x) i)) × (btree_map_len m ≤ btree_map_len n)

-- the map has so many ids, and all are below x
abbrev pub IsFullBelow : ℕ → BTreeMap ℕ ℕ → ℕ → Type 0
IsFullBelow many m x = (many ≤ btree_map_len m) × ((q : ℕ) → ContainsKey nat_cmp m q → q < x)

-- the map has for each id where it stands, and nothing else; once it has so many, it may leave out those above all of them
abbrev pub Locates : ℕ → BTreeMap ℕ ℕ → List ℕ → Type 0
Locates many m ids = (x : ℕ) → Finds ids x (get nat_cmp m x) ⊎ IsFullBelow many m x

-- no two are the same
abbrev pub Apart : List ℕ → Type 0
Apart ids = (i j : ℕ) → i < j → j < length ids → slice_index ids i ≢ slice_index ids j
