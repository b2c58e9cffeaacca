-- Numbers that spread from the target: the state of the work, and what it comes to.
use Rattle.std.specs.Prelude.{◌≡◌, ℕ, ◌+◌, ◌-◌, ◌*◌, ◌<◌, ◌≤◌, Bool, false, cond, ◌⊎◌, List, [], ◌∷◌, length, ◌≢◌, nat_lt, slice_index, slice_index_or, slice_set}
use Rattle.endless.specs.Games.{Game, whose, May}
use Rattle.endless.specs.Says.{goes}
use Rattle.endless.specs.Sets.{Set, In}
use Rattle.endless.specs.Graph.{moves, times, sources}
use Rattle.endless.specs.Pulling.{Passed, Unchanged}
use Rattle.distance.specs.Sooner.{never}

-- the number of a place in an answer
abbrev pub number : List ℕ → ℕ → ℕ
number o n = slice_index o (2 * n)

-- how many of these are not in a set
abbrev pub missing : Set → List ℕ → ℕ
missing P [] = 0
missing P (m ∷ ms) = cond (P m) 0 1 + missing P ms

-- what holds of right numbers from move to move: one more than the least of w's own moves, one more than the greatest of the other's, where all have numbers
pub record Measured (g : Game) (w target : ℕ) (number plan : ℕ → ℕ) : Type 0 where
  pub size : (n : ℕ) → n < length g → (number n ≡ never) ⊎ (number n < length g)
  pub zero_at : number target ≡ 0
  pub at_zero : (n : ℕ) → n < length g → number n ≡ 0 → n ≡ target
  pub may : (n : ℕ) → n < length g → May g n (plan n)
  pub falls : (n : ℕ) → n < length g → number n < never → (n ≢ target) → number (plan n) + 1 ≡ number n
  pub own : (n m : ℕ) → whose g n ≡ w → May g n m → number m < never → number n ≤ number m + 1
  pub forced : (n m : ℕ) → n < length g → (whose g n ≢ w) → number n < never → (n ≢ target) → May g n m → number m + 1 ≤ number n
  pub past : (n : ℕ) → n < length g → (whose g n ≢ w) → number n ≡ never → (m : ℕ) × May g n m × (number m ≡ never)

-- on the way: the queue is gone through up to `head` and filled up to `tail`, and of the places that may move to the one at `head`, those in `seen` have been looked at; `awaited` counts the moves of a place of the other's that do not yet lead to a place gone through; `before` is the answer before all
pub record Spread (g : Game) (w target : ℕ) (before : List ℕ) (head : ℕ) (seen out queue awaited : List ℕ) (tail : ℕ) : Type 0 where
  pub order : head ≤ tail
  pub most : tail ≤ length g
  pub behind : (n : ℕ) → length g ≤ n → Unchanged before out n
  pub zero_at : number out target ≡ 0
  pub at_zero : (n : ℕ) → n < length g → number out n ≡ 0 → n ≡ target
  pub placed : (j : ℕ) → j < tail → slice_index queue j < length g
  pub small : (j : ℕ) → j < tail → number out (slice_index queue j) ≤ j
  pub apart : (i j : ℕ) → i < j → j < tail → slice_index queue i ≢ slice_index queue j
  pub rising : (i j : ℕ) → i ≤ j → j < tail → number out (slice_index queue i) ≤ number out (slice_index queue j)
  pub near : (j : ℕ) → head < tail → j < tail → number out (slice_index queue j) ≤ number out (slice_index queue head) + 1
  pub listed : (n : ℕ) → n < length g → (number out n ≡ never) ⊎ Passed queue tail n
  pub may : (n : ℕ) → n < length g → May g n (goes out n)
  pub falls : (n : ℕ) → n < length g → number out n < never → (n ≢ target) → number out (goes out n) + 1 ≡ number out n
  pub forced : (n m : ℕ) → n < length g → (whose g n ≢ w) → number out n < never → (n ≢ target) → May g n m → number out m + 1 ≤ number out n
  pub own : (n m : ℕ) → whose g n ≡ w → May g n m → Passed queue head m → number out n ≤ number out m + 1
  pub own_seen : (n : ℕ) → whose g n ≡ w → 0 < times n seen → number out n ≤ number out (slice_index queue head) + 1
  pub gone : Set
  pub gone_passed : (m : ℕ) → In gone m → Passed queue head m
  pub passed_gone : (m : ℕ) → Passed queue head m → In gone m
  pub waits : (n : ℕ) → n < length g → (whose g n ≢ w) → number out n ≡ never → (0 < slice_index awaited n) × (slice_index awaited n + times n seen ≡ missing gone (moves g n))

-- the place `from` is looked at, the one with index i of those that may move to the place `to` at the head of the queue; `next` is the number of one move more
pub record Looks (g : Game) (to next from head i : ℕ) (queue out : List ℕ) (tail : ℕ) : Type 0 where
  pub within : head < tail
  pub head_is : slice_index_or queue head 0 ≡ to
  pub next_is : next ≡ number out to + 1
  pub inside : i < length (sources 0 g to)
  pub from_is : slice_index_or (sources 0 g to) i 0 ≡ from

-- the queue grows, and what stands in it keeps its place and number
pub record Kept (out queue : List ℕ) (tail : ℕ) (out' queue' : List ℕ) (tail' : ℕ) : Type 0 where
  pub grows : tail ≤ tail'
  pub front : (j : ℕ) → j < tail → slice_index queue' j ≡ slice_index queue j
  pub numbers : (j : ℕ) → j < tail → number out' (slice_index queue j) ≡ number out (slice_index queue j)

-- there is room for a game's places in an answer, a queue and the counts
pub record Roomy (g : Game) (out queue awaited : List ℕ) : Type 0 where
  pub answers : 2 * length g ≤ length out
  pub queues : length g ≤ length queue
  pub counts : length g ≤ length awaited

-- one move of a place is awaited no longer: nothing changes at w's own; r tells whether one of the other's still waits for others of its moves
pub record Waited (g : Game) (w from : ℕ) (awaited awaited' : List ℕ) (r : Bool) : Type 0 where
  pub own : whose g from ≡ w → (awaited' ≡ awaited) × (r ≡ false)
  pub theirs : (whose g from ≢ w) → (awaited' ≡ slice_set awaited from (slice_index awaited from - 1)) × (r ≡ nat_lt 0 (slice_index awaited' from))
