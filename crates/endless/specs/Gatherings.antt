-- Places of a weight, or of a side, that are being gathered: what the steps do.
use Rattle.std.specs.Prelude.{◌≡◌, ℕ, ◌+◌, length}
use Rattle.endless.specs.Sets.{Set, having}
use Rattle.endless.specs.Bits.{members, size}
use Rattle.endless.specs.Sides.{number}
use Rattle.endless.specs.Pulling.{Starts}
use Rattle.endless.specs.Levels.{TakenIf}
use Rattle.endless.specs.Parts.{PickedIf, wanted, mark}
use Rattle.endless.specs.declared.gather.Gathering.{Gathering}
use Rattle.endless.specs.declared.gather.Picking.{Picking}

-- what it goes by stays, and what is written to
pub record SameGathering (a b : Gathering) : Type 0 where
  pub graph : b.graph ≡ a.graph
  pub side : b.side ≡ a.side
  pub heaviest : b.heaviest ≡ a.heaviest
  pub own : b.own ≡ a.own
  pub left : b.left.ghost_name ≡ a.left.ghost_name
  pub out : b.out.ghost_name ≡ a.out.ghost_name
  pub queue : b.queue.ghost_name ≡ a.queue.ghost_name
  pub queue_long : length b.queue.now ≡ length a.queue.now

-- one place is looked at
abbrev pub Takes : Gathering → ℕ → Gathering → Type 0
Takes a place b = TakenIf a.graph.now (number a.side) a.heaviest place (members a.own.now) a.count a.left.now a.queue.now a.out.now b.left.now b.queue.now b.out.now b.count

-- the winner and the answer stay, and what is written to
pub record SamePicking (a b : Picking) : Type 0 where
  pub winner : b.winner ≡ a.winner
  pub set : b.set.ghost_name ≡ a.set.ghost_name
  pub out : b.out.now ≡ a.out.now
  pub queue : b.queue.ghost_name ≡ a.queue.ghost_name
  pub set_long : length b.set.now ≡ length a.set.now
  pub queue_long : length b.queue.now ≡ length a.queue.now

-- one place is looked at
abbrev pub Picks : Picking → ℕ → Picking → Type 0
Picks a place b = PickedIf (wanted a.winner a.out.now) (mark a.winner) place a.count a.set.now a.queue.now b.set.now b.queue.now b.count

-- so many places went from the set to the queue, where none stood
pub record Picked (a b : Picking) (count : ℕ) : Type 0 where
  pub same : SamePicking a b
  pub counts : count + size b.set.now ≡ size a.set.now
  pub none : count ≡ 0 → b.set.now ≡ a.set.now

-- they are those of R that are wanted
abbrev pub PickedOf : Picking → Set → Picking → ℕ → Type 0
PickedOf a R b count = Starts (members a.set.now) (having R (wanted a.winner a.out.now) (mark a.winner)) b.set.now b.queue.now count
