-- The recursion over weights: what its steps do.
use Rattle.std.specs.Prelude.{◌≡◌, ℕ, ◌+◌, ◌*◌, ◌^◌, ◌<◌, ◌≤◌, ◌⊎◌, List, length, ◌≢◌, slice_index, slice_set}
use Rattle.endless.specs.Games.{Game, weight, May}
use Rattle.endless.specs.Says.{side, goes}
use Rattle.endless.specs.Sets.{Set, In, Out, Within, minus, having}
use Rattle.endless.specs.Subgames.{Subgame, Solves}
use Rattle.endless.specs.Attractors.{Attractor}
use Rattle.endless.specs.Bits.{members, count, size, Removed}
use Rattle.endless.specs.Weights.{occurs}
use Rattle.endless.specs.Pulling.{Unchanged, Starts, Sized}
use Rattle.endless.specs.declared.desk.Desk.{Desk}

-- h is the heaviest weight in a set, and some place of it has it
pub record HeaviestIn (g : Game) (U : Set) (h : ℕ) : Type 0 where
  pub most : (n : ℕ) → In U n → weight g n ≤ h
  pub some_place : (n : ℕ) × In U n × (weight g n ≡ h)

-- h is the heaviest weight of the places of a list
pub record HeaviestOf (g : Game) (list : List ℕ) (h : ℕ) : Type 0 where
  pub most : (j : ℕ) → j < length list → weight g (slice_index list j) ≤ h
  pub some_place : (j : ℕ) × (j < length list) × (weight g (slice_index list j) ≡ h)

-- m is a move of n that stays in a set, where n has one
abbrev pub Stays : Game → Set → ℕ → ℕ → Type 0
Stays g U n m = (k : ℕ) → May g n k → In U k → May g n m × In U m

-- the places of weight h of a set U stand in the queue, are given to a side, each with a move that stays in V, where it has one; the others are left
pub record GatheredIn (g : Game) (U V : Set) (w h : ℕ) (left queue out : List ℕ) (count : ℕ) : Type 0 where
  pub starts : Starts U (having U (weight g) h) left queue count
  pub labelled : (n : ℕ) → In (having U (weight g) h) n → side out n ≡ w
  pub stays : (n : ℕ) → In (having U (weight g) h) n → Stays g V n (goes out n)

-- two sets of one length, the one left of the other, and an answer, with room for a game's places
pub record Fitting (g : Game) (own left out : List ℕ) : Type 0 where
  pub sets : length g ≤ 32 * length own
  pub same : length left ≡ length own
  pub answers : 2 * length g ≤ length out
  pub small : 32 * length own < 2 ^ 32

-- a place is given to a side, with a move that stays in a set
pub record Given (g : Game) (w n : ℕ) (U : Set) (out out' : List ℕ) : Type 0 where
  pub move : ℕ
  pub out_is : out' ≡ slice_set (slice_set out (2 * n) w) (2 * n + 1) move
  pub stays : Stays g U n move

-- a place goes from what is left to the queue, given to a side with a move that stays in a set
pub record Taken (g : Game) (w n : ℕ) (U : Set) (count : ℕ) (left queue out left' queue' out' : List ℕ) : Type 0 where
  pub left_is : Removed left n left'
  pub queue_is : queue' ≡ slice_set queue count n
  pub given : Given g w n U out out'

-- it goes so, if it is left and has a weight
abbrev pub TakenIf : Game → ℕ → ℕ → ℕ → Set → ℕ → List ℕ → List ℕ → List ℕ → List ℕ → List ℕ → List ℕ → ℕ → Type 0
TakenIf g w h n U count left queue out left' queue' out' r =
    ((r ≡ count) × (left' ≡ left) × (queue' ≡ queue) × (out' ≡ out) × (In (members left) n → weight g n ≢ h))
    ⊎ ((r ≡ count + 1) × In (members left) n × (weight g n ≡ h) × Taken g w n U count left queue out left' queue' out')

-- in a part R the attractor for w of the places of weight h is taken: B is left, and the answer gives the rest to w
pub record Brought (g : Game) (R : Set) (w h : ℕ) (B : Set) (out : List ℕ) : Type 0 where
  pub within : Within B R
  pub rank : ℕ → ℕ
  pub attractor : Attractor g R w (having R (weight g) h) (minus R B) (goes out) rank
  pub labelled : (n : ℕ) → In R n → Out B n → side out n ≡ w
  pub moves : (n : ℕ) → In (having R (weight g) h) n → May g n (goes out n) × In R (goes out n)

-- from U the attractor for w of a set that w has won is taken: L is left
pub record Peeled (g : Game) (U : Set) (w : ℕ) (X L : Set) (out out' : List ℕ) : Type 0 where
  pub within : Within L U
  pub rank : ℕ → ℕ
  pub attractor : Attractor g U w X (minus U L) (goes out') rank
  pub labelled : (n : ℕ) → In U n → Out X n → Out L n → side out' n ≡ w
  pub kept : (n : ℕ) → In X n → Unchanged out out' n

-- what is lost in R to q is peeled off U, with all from which it can be brought about; or all of R, where q has won nothing there
abbrev pub Peels : Game → Set → Set → ℕ → ℕ → Set → List ℕ → List ℕ → Type 0
Peels g U R p q L out out' = (((n : ℕ) → In R n → side out n ≢ q) × Peeled g U p R L out out') ⊎ Peeled g U q (having R (side out) q) L out out'

-- whatever solves what is left of a subgame, and changes nothing else of the answer, solves the subgame
pub record Reduces (g : Game) (U L : Set) (out : List ℕ) : Type 0 where
  pub rest : Subgame g L
  pub solves : (o : List ℕ) → length o ≡ length out → ((n : ℕ) → Out L n → Unchanged out o n) → Solves g L (side o) (goes o) → Solves g U (side o) (goes o)

-- a set of places of a game, and room for them in an answer, the numbers of moves, the queue and the words beside it
pub record Lent (g : Game) (own : List ℕ) (desk : Desk) : Type 0 where
  pub inside : (n : ℕ) → In (members own) n → n < length g
  pub sized : Sized g own desk.out.now desk.escapes.now
  pub queues : size own < length desk.queue.now
  pub beside : size own < length desk.via.now
  pub small : 32 * length own < 2 ^ 32

-- how many different weights below a bound occur in a game
abbrev pub levels : Game → ℕ → ℕ
levels g bound = count (occurs g) bound

-- a subgame with all weights below a bound, and room for the sets of its levels: one for each different weight below the bound
pub record Room (g : Game) (bound : ℕ) (own rest : List ℕ) (desk : Desk) : Type 0 where
  pub subgame : Subgame g (members own)
  pub light : (n : ℕ) → In (members own) n → weight g n < bound
  pub sized : Sized g own desk.out.now desk.escapes.now
  pub queues : size own < length desk.queue.now
  pub beside : size own < length desk.via.now
  pub small : 32 * length own < 2 ^ 32
  pub sets : levels g bound * length own ≤ length rest
