-- The weights that came last, and how often each stands among them.
use Rattle.std.specs.Prelude.{◌≡◌, ℕ, ◌+◌, ◌-◌, ◌<◌, ◌≤◌, List, [], length, drop, Some, None, Option, slice_index, slice_set}
use Rattle.std.specs.VecDeque.{deque_items, deque_len, deque_capacity}
use Rattle.std.specs.declared.collections.VecDeque.{VecDeque}
use Rattle.endless.specs.Games.{Among}
use Rattle.endless.specs.Graph.{times}

-- the last n of a list, or all where there are fewer
abbrev pub latest : {A : Type 0} → ℕ → List A → List A
latest n xs = drop (length xs - n) xs

-- the window is what is left of these weights, which came one after another: the last 1,000
abbrev pub Holds : List ℕ → List ℕ → Type 0
Holds window all = window ≡ latest 1000 all

-- one more of a weight, and one less
abbrev pub more : ℕ → List ℕ → List ℕ
more weight counts = slice_set counts weight (slice_index counts weight + 1)

abbrev pub less : ℕ → List ℕ → List ℕ
less weight counts = slice_set counts weight (slice_index counts weight - 1)

-- each count is how often its weight stands among these
abbrev pub Tells : List ℕ → List ℕ → Type 0
Tells counts weights = (k : ℕ) → k < 256 → slice_index counts k ≡ times k weights

-- no weight of 256 or more stands among these
abbrev pub Light : List ℕ → Type 0
Light weights = (k : ℕ) → 256 ≤ k → times k weights ≡ 0

-- at most 1,000 weights, with room for as many, and their counts
pub record Kept {A : Type 0} (weights : VecDeque ℕ A) (counts : List ℕ) : Type 0 where
  pub roomy : 1000 ≤ deque_capacity weights
  pub few : deque_len weights ≤ 1000
  pub kinds : length counts ≡ 256
  pub tells : Tells counts (deque_items weights)
  pub light : Light (deque_items weights)

-- the heaviest of these weights, or that there is none
abbrev pub HeaviestIs : List ℕ → Option ℕ → Type 0
HeaviestIs xs None = xs ≡ []
HeaviestIs xs (Some k) = Among k xs × ((m : ℕ) → Among m xs → m ≤ k)

-- the greatest index at which something is counted, or that nothing is
abbrev pub GreatestIs : List ℕ → Option ℕ → Type 0
GreatestIs counts None = (k : ℕ) → k < length counts → slice_index counts k ≡ 0
GreatestIs counts (Some k) = (k < length counts) × (0 < slice_index counts k) × ((m : ℕ) → k < m → m < length counts → slice_index counts m ≡ 0)
