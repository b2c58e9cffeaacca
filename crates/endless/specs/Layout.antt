-- The parts that the lent words are cut into.
use Rattle.std.specs.Prelude.{◌≡◌, ℕ, ◌+◌, ◌*◌, ◌/◌, ◌^◌, ◌<◌, ◌≤◌, List, length, nat_lt, Ok, Err, Result}
use Rattle.endless.specs.Games.{Game, Reads, weight}
use Rattle.endless.specs.Graph.{edges}
use Rattle.endless.specs.View.{words_of, Playable}
use Rattle.endless.specs.Sets.{whole}
use Rattle.endless.specs.Bits.{members, size}
use Rattle.endless.specs.Ways.{Counted}
use Rattle.endless.specs.Weights.{kinds}
use Rattle.endless.specs.Pulling.{Sized}
use Rattle.endless.specs.Levels.{levels}
use Rattle.endless.specs.declared.desk.Desk.{Desk}
use Rattle.endless.specs.declared.layout.Layout.{Layout}
use Rattle.endless.specs.declared.layout.Short.{Short}

-- how many words a set of n places takes
abbrev pub width : ℕ → ℕ
width n = (n + 31) / 32

-- how many words the parts take together for n places, m moves and d different weights: where the places start; which are each side's, and the weights; where their predecessor lists start, and these; the queue with one place more, as many words beside it, and a number for each place; the set of all places and one for each level
abbrev pub needed : ℕ → ℕ → ℕ → ℕ
needed n m d = ((n + n) + (width n + width n + n) + ((n + 1) + (n + 1) + m)) + (((n + 1) + (n + 1) + n) + (d + 1) * width n)

-- how many words have to be lent for a game: 65,536, and 4 for each of its words
abbrev pub lent_for : Game → ℕ
lent_for g = 65536 + 4 * length (words_of g)

-- what has to be lent is enough for every game
abbrev pub LentIsEnough : Type 0
LentIsEnough = (s : List ℕ) (g : Game) → Reads s g → needed (length g) (edges g) (kinds g) ≤ 65536 + 4 * length s

-- a level that meets weights below a bound, of which h is the heaviest, is above levels for the different weights below h, and these are fewer than those below the bound
abbrev pub LevelsFall : Type 0
LevelsFall = (g : Game) (n h bound : ℕ) → n < length g → weight g n ≡ h → h < bound → levels g h + 1 ≤ levels g bound

-- whether an answer for n places has room in so many words
abbrev pub OutRoomIs : ℕ → ℕ → Result (Unit {0}) Short → Type 0
OutRoomIs n given (Ok u) = 2 * n ≤ given
OutRoomIs n given (Err e) = (e.needed ≡ 2 * n) × (e.given ≡ given) × (given < 2 * n)

-- a game is laid out in so many lent words: its graph, room for its queue and as many words beside it, how many moves each place has, the set of all places, and room for a set for each level; these parts take what is needed, and no more
pub record LaidOut (lent : ℕ) (g : Game) (r : Layout) : Type 0 where
  pub is : r.graph ≡ g
  pub playable : Playable g
  pub taken : needed (length g) (edges g) 0 + length r.rest.now ≡ lent
  pub queue : length g < length r.queue.now
  pub via : length g < length r.via.now
  pub escapes : length g ≤ length r.escapes.now
  pub counted : Counted r.graph (whole r.graph) (whole r.graph) r.escapes.now
  pub are : (j : ℕ) → members r.all.now j ≡ nat_lt j (length g)
  pub many : size r.all.now ≡ length g
  pub wide : length r.all.now ≡ width (length g)
  pub rest : kinds g * width (length g) ≤ length r.rest.now
  pub spare : 2 * width (length g) + (length g + 1) ≤ length r.rest.now

-- what a game was laid out in has room to solve it within a set of its places: a queue and as many words beside it, a number for each place, this set, and a set for each level
pub record Fits (g : Game) (queue via escapes set rest : List ℕ) : Type 0 where
  pub queues : length g < length queue
  pub beside : length g < length via
  pub counts : length g ≤ length escapes
  pub wide : length set ≡ width (length g)
  pub sets : kinds g * width (length g) ≤ length rest

-- a game to begin with: the set of all its places, and room for them in an answer, a queue, the words beside it and the numbers of moves
pub record Fresh (g : Game) (all : List ℕ) (desk : Desk) : Type 0 where
  pub are : (j : ℕ) → members all j ≡ nat_lt j (length g)
  pub many : size all ≡ length g
  pub sized : Sized g all desk.out.now desk.escapes.now
  pub queues : length g < length desk.queue.now
  pub beside : length g < length desk.via.now
  pub small : 32 * length all < 2 ^ 32
