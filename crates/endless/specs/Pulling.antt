-- An attractor made by going through a queue of places and, at each, through the places that may move to it.
use Rattle.std.specs.Prelude.{◌≡◌, ℕ, ◌+◌, ◌*◌, ◌<◌, ◌≤◌, ◌⊎◌, List, [], length, ◌≢◌, slice_index, slice_set}
use Rattle.endless.specs.Games.{Game, whose, Among, May}
use Rattle.endless.specs.Says.{side, goes}
use Rattle.endless.specs.Sets.{Set, In, Out, Within, minus}
use Rattle.endless.specs.Attractors.{Attractor, Attracting}
use Rattle.endless.specs.Bits.{members, size, Removed}
use Rattle.endless.specs.Graph.{sources}
use Rattle.endless.specs.Ways.{ways, queued, Counted, Awaited, Lowered}

-- on the way: L is left of U, all that may move to a place that P passed has been looked at but for ns, and the plan is made so far
pub record Pulling (g : Game) (U : Set) (w : ℕ) (D L : Set) (P : ℕ → Type 0) (ns : List ℕ) (plan : ℕ → ℕ) : Type 0 where
  pub left : Within L U
  pub rank : ℕ → ℕ
  pub bound : ℕ
  pub so_far : Attracting g U w D (minus U L) plan rank bound
  pub passed : (n : ℕ) → P n → Out L n
  pub no_way_in : (n m : ℕ) → In L n → (Among n ns → ⊥) → whose g n ≡ w → May g n m → P m → ⊥

-- there is room for a game's places in a set, an answer and the numbers of moves
pub record Sized (g : Game) (left out escapes : List ℕ) : Type 0 where
  pub sets : length g ≤ 32 * length left
  pub answers : 2 * length g ≤ length out
  pub counts : length g ≤ length escapes

-- the places before an index of the queue
abbrev pub Passed : List ℕ → ℕ → ℕ → Type 0
Passed q head n = (j : ℕ) × (j < head) × (slice_index q j ≡ n)

-- the state of the work: what is left of U as bits, the queue, gone through up to `head` and filled from `targets` up to `tail`, with a move beside each place, and the numbers of moves that still count; ns are yet to be looked at
pub record Working (g : Game) (U : Set) (w : ℕ) (D : Set) (left queue via escapes : List ℕ) (targets head tail : ℕ) (ns : List ℕ) : Type 0 where
  pub late : targets ≤ tail
  pub order : head ≤ tail
  pub plan : ℕ → ℕ
  pub pulling : Pulling g U w D (members left) (Passed queue head) ns plan
  pub moves_are : (j : ℕ) → targets ≤ j → j < tail → plan (slice_index queue j) ≡ slice_index via j
  pub first : (j : ℕ) → j < targets → In D (slice_index queue j)
  pub queued : (j : ℕ) → j < tail → In U (slice_index queue j) × Out (members left) (slice_index queue j)
  pub listed : (n : ℕ) → In U n → Out (members left) n → Passed queue tail n
  pub awaited : Awaited g left queue escapes head tail ns

-- one place is looked at, which may move to `to`, so that this move counts no longer: it stays, or it comes; in either case it is written behind the queue
pub record Pulled (g : Game) (w from to tail : ℕ) (left queue via escapes left' queue' via' escapes' : List ℕ) (r : ℕ) : Type 0 where
  pub queue_is : queue' ≡ slice_set queue tail from
  pub via_is : via' ≡ slice_set via tail to
  pub lowered : Lowered (members left) from escapes escapes'
  pub took : ((r ≡ tail) × (left' ≡ left) × (In (members left) from → whose g from ≢ w)) ⊎ ((r ≡ tail + 1) × In (members left) from × Removed left from left' × ((whose g from ≢ w) → slice_index escapes' from ≡ 0))

-- what a place's words of an answer are is unchanged
abbrev pub Unchanged : List ℕ → List ℕ → ℕ → Type 0
Unchanged out out' n = (slice_index out' (2 * n) ≡ slice_index out (2 * n)) × (slice_index out' (2 * n + 1) ≡ slice_index out (2 * n + 1))

-- places went from what is left to the end of the queue: as many as are missing; what stood there stands there still
pub record Moved (left queue : List ℕ) (tail : ℕ) (left' queue' : List ℕ) (tail' : ℕ) : Type 0 where
  pub counts : tail' + size left' ≡ tail + size left
  pub grows : tail ≤ tail'
  pub less : Within (members left') (members left)
  pub front : (j : ℕ) → j < tail → slice_index queue' j ≡ slice_index queue j
  pub came : (j : ℕ) → tail ≤ j → j < tail' → In (members left) (slice_index queue' j) × Out (members left') (slice_index queue' j)

-- all that may move to a place of the attractor has been looked at
abbrev pub Looked : Game → ℕ → ℕ → List ℕ → List ℕ → List ℕ → List ℕ → ℕ → List ℕ → List ℕ → List ℕ → List ℕ → ℕ → Type 0
Looked g w to left queue via escapes tail left' queue' via' escapes' tail' = (U D : Set) (targets head : ℕ) → In U to → Out (members left) to →
    Working g U w D left queue via escapes targets head tail (sources 0 g to) → Working g U w D left' queue' via' escapes' targets head tail' []

-- before the first: the targets D stand in the queue, each once, and the rest of U is left
pub record Starts (U D : Set) (left queue : List ℕ) (targets : ℕ) : Type 0 where
  pub rest : Within (members left) U
  pub inside : Within D U
  pub apart : (n : ℕ) → In D n → Out (members left) n
  pub covers : (n : ℕ) → In U n → Out (members left) n → In D n
  pub first : (j : ℕ) → j < targets → In D (slice_index queue j)
  pub all : (n : ℕ) → In D n → Passed queue targets n
  pub total : (ms : List ℕ) → ways (members left) ms + queued queue targets ms ≡ ways U ms

-- after the last: what is no longer left is the attractor, by a plan that makes the moves beside the places in the queue; the moves of what is left are counted
pub record Drawn (g : Game) (U : Set) (w : ℕ) (D : Set) (left queue via escapes : List ℕ) (targets tail : ℕ) : Type 0 where
  pub plan : ℕ → ℕ
  pub rank : ℕ → ℕ
  pub attractor : Attractor g U w D (minus U (members left)) plan rank
  pub moves_are : (j : ℕ) → targets ≤ j → j < tail → plan (slice_index queue j) ≡ slice_index via j
  pub first : (j : ℕ) → j < targets → In D (slice_index queue j)
  pub queued : (j : ℕ) → j < tail → In U (slice_index queue j) × Out (members left) (slice_index queue j)
  pub listed : (n : ℕ) → In U n → Out (members left) n → Passed queue tail n
  pub counted : Counted g (members left) (members left) escapes

-- the answer gives a side the places of the queue between two indices, each with the move beside one of its entries there, and no others
pub record Labelled (w : ℕ) (queue via : List ℕ) (from to : ℕ) (out out' : List ℕ) : Type 0 where
  pub frame : (n : ℕ) → ((j : ℕ) → from ≤ j → j < to → slice_index queue j ≢ n) → Unchanged out out' n
  pub given : (j : ℕ) → from ≤ j → j < to → side out' (slice_index queue j) ≡ w
  pub moves_are : (j : ℕ) → from ≤ j → j < to → (i : ℕ) × (from ≤ i) × (i < to) × (slice_index queue i ≡ slice_index queue j) × (goes out' (slice_index queue j) ≡ slice_index via i)

-- what is no longer left is the attractor, by the answer's moves; it stands in the queue, and is given to the side; the moves of what is left are counted
pub record Attracts (g : Game) (U : Set) (w : ℕ) (D : Set) (left queue out escapes : List ℕ) (tail : ℕ) : Type 0 where
  pub rank : ℕ → ℕ
  pub attractor : Attractor g U w D (minus U (members left)) (goes out) rank
  pub queued : (j : ℕ) → j < tail → In U (slice_index queue j) × Out (members left) (slice_index queue j)
  pub listed : (n : ℕ) → In U n → Out (members left) n → Passed queue tail n
  pub labelled : (n : ℕ) → In U n → Out D n → Out (members left) n → side out n ≡ w
  pub counted : Counted g (members left) (members left) escapes
