-- Numbers that are being spread: what the steps do to their state.
use Rattle.std.specs.Prelude.{◌≡◌, ℕ, ◌+◌, ◌<◌, ◌≤◌, List, [], length, take, slice_index}
use Rattle.endless.specs.Says.{goes}
use Rattle.endless.specs.Graph.{sources}
use Rattle.endless.specs.Sides.{number as side-number}
use Rattle.endless.specs.Pulling.{Unchanged}
use Rattle.distance.specs.Spreading.{number, Measured, Spread, Looks, Kept}
use Rattle.distance.specs.declared.spread.Spreading.{Spreading}

-- the queue is gone through up to `head`, and of the places that may move to the one there, those in `seen` have been looked at
abbrev pub Going : Spreading → ℕ → List ℕ → ℕ → List ℕ → Type 0
Going s target before head seen = Spread s.graph.now (side-number s.side) target before head seen s.out.now s.queue.now s.awaited.now s.tail

-- the graph and the side stay, and what the work is written to
pub record Same (a b : Spreading) : Type 0 where
  pub graph : b.graph ≡ a.graph
  pub side : b.side ≡ a.side
  pub out : b.out.ghost_name ≡ a.out.ghost_name
  pub queue : b.queue.ghost_name ≡ a.queue.ghost_name
  pub awaited : b.awaited.ghost_name ≡ a.awaited.ghost_name

-- one more of the places that may move to `to` is looked at
abbrev pub Pulls : Spreading → ℕ → ℕ → ℕ → Spreading → Type 0
Pulls a from to next b = (target : ℕ) (before : List ℕ) (head i : ℕ) → Looks a.graph.now to next from head i a.queue.now a.out.now a.tail → Going a target before head (take i (sources 0 a.graph.now to)) →
    Going b target before head (take (i + 1) (sources 0 b.graph.now to)) × Kept a.out.now a.queue.now a.tail b.out.now b.queue.now b.tail

-- the place `to` at the head of the queue is gone through
abbrev pub Advances : Spreading → ℕ → Spreading → Type 0
Advances a to b = (target : ℕ) (before : List ℕ) (head : ℕ) → head < a.tail → slice_index a.queue.now head ≡ to → Going a target before head [] → Going b target before (head + 1) []

-- the queue is gone through, and the numbers are right
abbrev pub Measures : Spreading → Spreading → Type 0
Measures a b = (target : ℕ) (before : List ℕ) → Going a target before 0 [] → Measured a.graph.now (side-number a.side) target (number b.out.now) (goes b.out.now) × ((n : ℕ) → length a.graph.now ≤ n → Unchanged before b.out.now n)
