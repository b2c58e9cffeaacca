-- A part of a set that is being made: what the steps do to it.
use Rattle.std.specs.Prelude.{◌≡◌, ℕ, ◌<◌, ◌≤◌, Option, slice_index}
use Rattle.endless.specs.Sets.{Within}
use Rattle.endless.specs.Bits.{members}
use Rattle.endless.specs.Parts.{Listing, PartTaken}
use Rattle.endless.specs.declared.closed.Growing.{Growing}

-- the places of the part are listed
abbrev pub Lists : Growing → Type 0
Lists a = Listing a.set.now a.part.now a.queue.now a.count

-- the places and the set stay, and what the part is written to
pub record Same (a b : Growing) : Type 0 where
  pub places : b.places.now ≡ a.places.now
  pub set : b.set.now ≡ a.set.now
  pub part : b.part.ghost_name ≡ a.part.ghost_name
  pub queue : b.queue.ghost_name ≡ a.queue.ghost_name

-- places came to the part, and to the end of the queue
pub record Grown (a b : Growing) : Type 0 where
  pub same : Same a b
  pub grows : a.count ≤ b.count
  pub more : Within (members a.part.now) (members b.part.now)
  pub lists : Lists b
  pub front : (j : ℕ) → j < a.count → slice_index b.queue.now j ≡ slice_index a.queue.now j

-- a closed part is taken, which is listed, if there is a number
abbrev pub Takes : Growing → Growing → Option ℕ → Type 0
Takes a b count = PartTaken a.places.now a.set.now b.part.now b.queue.now count
