-- In how many moves a side can make sure that a play comes to a place, round by round of moves.
use Rattle.std.specs.Prelude.{◌≡◌, ℕ, zero, suc, ◌+◌, ◌<◌, ◌≤◌, Bool, true, false, ◌&&◌, ◌||◌, List, length, vec_items, Option, Some, None, is_some, ◌==◌, nat_lt, slice_index_or, if◌then◌else◌}
use Rattle.std.specs.List.{list_any, list_all}
use Rattle.allplans.specs.declared.game.Place.{Place}
use Rattle.allplans.specs.Rounds.{whose, moves}
use Rattle.allplans.specs.Sets.{unknown}

-- one of some moves goes to such a place, where the side is to move, or else all of them do
abbrev pub brings : Bool → (ℕ → Bool) → List ℕ → Bool
brings own there moves = if own then list_any there moves else list_all there moves

-- within so many moves the side can make sure that a play from v comes to the target: from the target within none; within one more from where it can within as many as before, or can make sure of such a place by the next move
abbrev pub sure : List Place → ℕ → ℕ → ℕ → ℕ → Bool
sure ps side target zero = λ v. nat_lt v (length ps) && (v == target)
sure ps side target (suc k) = λ v. sure ps side target k v || (nat_lt v (length ps) && brings (whose ps v == side) (sure ps side target k) (moves ps v))

-- the least number of moves in which it can from v; none, where it cannot in any
abbrev pub IsLeast : List Place → ℕ → ℕ → ℕ → Option ℕ → Type 0
IsLeast ps side target v None = (k : ℕ) → sure ps side target k v ≡ false
IsLeast ps side target v (Some d) = (sure ps side target d v ≡ true) × ((k : ℕ) → k < d → sure ps side target k v ≡ false)

-- of each place
pub record Distances (ps : List Place) (side target : ℕ) (numbers : List (Option ℕ)) : Type 0 where
  pub all_places : length numbers ≡ length ps
  pub least : (v : ℕ) → v < length ps → IsLeast ps side target v (slice_index_or numbers v None)

-- as far as so many moves tell
abbrev pub LeastUpto : List Place → ℕ → ℕ → ℕ → ℕ → Option ℕ → Type 0
LeastUpto ps side target n v None = (k : ℕ) → k ≤ n → sure ps side target k v ≡ false
LeastUpto ps side target n v (Some d) = (d ≤ n) × (sure ps side target d v ≡ true) × ((k : ℕ) → k < d → sure ps side target k v ≡ false)

pub record Upto (ps : List Place) (side target n : ℕ) (numbers : List (Option ℕ)) : Type 0 where
  pub all_places : length numbers ≡ length ps
  pub least : (v : ℕ) → v < length ps → LeastUpto ps side target n v (slice_index_or numbers v None)
  pub few : n + unknown numbers ≤ length ps

-- whether a place has a number
abbrev pub numbered : List (Option ℕ) → ℕ → Bool
numbered numbers v = is_some (slice_index_or numbers v None)

-- the number of a place in the next round
abbrev pub later : ℕ → List (Option ℕ) → ℕ → Place → Option ℕ → Option ℕ
later side numbers n here (Some d) = Some d
later side numbers n here None = if brings (here.whose == side) (numbered numbers) (vec_items here.moves) then Some n else None
