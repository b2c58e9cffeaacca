-- An attractor that is being made: what the steps do to its state.
use Rattle.std.specs.Prelude.{◌≡◌, ℕ, length}
use Rattle.endless.specs.Sets.{Set}
use Rattle.endless.specs.Sides.{number}
use Rattle.endless.specs.Bits.{members}
use Rattle.endless.specs.Ways.{Counted, Untouched}
use Rattle.endless.specs.Pulling.{Pulled, Moved, Looked, Starts, Drawn}
use Rattle.endless.specs.declared.attractor.Attraction.{Attraction}

-- the graph and the side stay, and what the work is written to
pub record Same (a b : Attraction) : Type 0 where
  pub graph : b.graph ≡ a.graph
  pub side : b.side ≡ a.side
  pub left : b.left.ghost_name ≡ a.left.ghost_name
  pub queue : b.queue.ghost_name ≡ a.queue.ghost_name
  pub via : b.via.ghost_name ≡ a.via.ghost_name
  pub escapes : b.escapes.ghost_name ≡ a.escapes.ghost_name
  pub queue_long : length b.queue.now ≡ length a.queue.now
  pub via_long : length b.via.now ≡ length a.via.now
  pub escapes_long : length b.escapes.now ≡ length a.escapes.now

-- one place is looked at, which may move to `to`
abbrev pub Pulls : Attraction → ℕ → ℕ → Attraction → Type 0
Pulls a from to b = Pulled a.graph.now (number a.side) from to a.tail a.left.now a.queue.now a.via.now a.escapes.now b.left.now b.queue.now b.via.now b.escapes.now b.tail

-- places went from what is left to the end of the queue
abbrev pub Moves : Attraction → Attraction → Type 0
Moves a b = Moved a.left.now a.queue.now a.tail b.left.now b.queue.now b.tail

-- all that may move to a place of the attractor has been looked at
abbrev pub Looks : Attraction → ℕ → Attraction → Type 0
Looks a to b = Looked a.graph.now (number a.side) to a.left.now a.queue.now a.via.now a.escapes.now a.tail b.left.now b.queue.now b.via.now b.escapes.now b.tail

-- the numbers of the places that were not left are as they were
abbrev pub Keeps : Attraction → Attraction → Type 0
Keeps a b = Untouched (members a.left.now) a.escapes.now b.escapes.now

-- what is no longer left of a subgame is the attractor of the targets that stood in the queue
abbrev pub Brings : Attraction → Attraction → Type 0
Brings a b = (U D : Set) → Starts U D a.left.now a.queue.now a.tail → Counted a.graph.now U (members a.left.now) a.escapes.now → Drawn a.graph.now U (number a.side) D b.left.now b.queue.now b.via.now b.escapes.now a.tail b.tail
