-- A search back from a place: what its steps do.
use Rattle.std.specs.Prelude.{◌≡◌, ℕ, ◌+◌, ◌<◌, ◌≤◌, ◌⊎◌, List, slice_index, slice_index_or, slice_set}
use Rattle.endless.specs.Games.{Game, whose, weight}
use Rattle.endless.specs.Sets.{Set, In, Out, Within}
use Rattle.endless.specs.Bits.{members, Removed}
use Rattle.endless.specs.Pulling.{Passed, Moved}
use Rattle.endless.specs.Flaws.{Step, Walk}
use Rattle.endless.specs.Says.{goes}
use Rattle.endless.specs.Sides.{number}
use Rattle.endless.specs.declared.claim.Claim.{Claim}
use Rattle.endless.specs.declared.search_back.SearchBack.{SearchBack}

-- the state of the search among the places of X for x: L is left of X, the queue is gone through up to `head` and filled up to `tail`
pub record Tracing (g : Game) (X : Set) (w : ℕ) (plan : ℕ → ℕ) (k x : ℕ) (L : Set) (queue : List ℕ) (head tail : ℕ) : Type 0 where
  pub within : Within L X
  pub first : slice_index_or queue 0 0 ≡ x
  pub some_first : 0 < tail
  pub queued : (j : ℕ) → j < tail → (slice_index queue j ≡ x) ⊎ (In X (slice_index queue j) × Walk g X w plan k (slice_index queue j) x)
  pub walks : (n : ℕ) → In X n → Out L n → Walk g X w plan k n x
  pub listed : (n : ℕ) → In X n → Out L n → Passed queue tail n
  pub looked : (n m : ℕ) → In L n → weight g n ≤ k → Passed queue head m → Step g w plan n m → ⊥

-- it stays, or it comes
pub record Remained (g : Game) (w : ℕ) (plan : ℕ → ℕ) (k from to : ℕ) (left queue left' queue' : List ℕ) : Type 0 where
  pub left_is : left' ≡ left
  pub queue_is : queue' ≡ queue
  pub why : In (members left) from → weight g from ≤ k → (whose g from ≡ w → to ≡ plan from) → ⊥

pub record Joined (g : Game) (w : ℕ) (plan : ℕ → ℕ) (k from to tail : ℕ) (left queue left' queue' : List ℕ) : Type 0 where
  pub was : In (members left) from
  pub left_is : Removed left from left'
  pub queue_is : queue' ≡ slice_set queue tail from
  pub light : weight g from ≤ k
  pub by_plan : whose g from ≡ w → to ≡ plan from

-- what a search goes by stays
pub record Same (s s' : SearchBack) : Type 0 where
  pub claim : s'.claim ≡ s.claim
  pub heaviest : s'.heaviest ≡ s.heaviest

-- one place is looked at, which may move to `to`
abbrev pub Visited : SearchBack → ℕ → ℕ → SearchBack → Type 0
Visited s from to s' =
    ((s'.tail ≡ s.tail) × Remained s.claim.graph.now (number s.claim.side) (goes s.claim.answer.now) s.heaviest from to s.left.now s.queue.now s'.left.now s'.queue.now) ⊎
    ((s'.tail ≡ s.tail + 1) × Joined s.claim.graph.now (number s.claim.side) (goes s.claim.answer.now) s.heaviest from to s.tail s.left.now s.queue.now s'.left.now s'.queue.now)

-- places went from what is left to the end of the queue
abbrev pub Went : SearchBack → SearchBack → Type 0
Went s s' = Moved s.left.now s.queue.now s.tail s'.left.now s'.queue.now s'.tail

-- a search, gone through up to `head`, among the places of X for x, as a search begun as s goes about it
abbrev pub Searching : SearchBack → Set → ℕ → ℕ → SearchBack → Type 0
Searching s X x head s' = Tracing s.claim.graph.now X (number s.claim.side) (goes s.claim.answer.now) s.heaviest x (members s'.left.now) s'.queue.now head s'.tail

-- a place is the one that it goes back to, or there is a walk from it to that one
abbrev pub Comes : SearchBack → Set → ℕ → ℕ → Type 0
Comes s X n x = (n ≡ x) ⊎ (In X n × Walk s.claim.graph.now X (number s.claim.side) (goes s.claim.answer.now) s.heaviest n x)

-- all that may move to a place of the queue has been looked at
abbrev pub Searched : SearchBack → ℕ → SearchBack → Type 0
Searched s to s' = (X : Set) (x head : ℕ) → head ≤ s.tail → Comes s X to x → Searching s X x head s → Searching s X x head s' × ((n : ℕ) → In (members s'.left.now) n → weight s.claim.graph.now n ≤ s.heaviest → Step s.claim.graph.now (number s.claim.side) (goes s.claim.answer.now) n to → ⊥)

-- in the end what is no longer left of X are the places from which there is a walk to x
pub record Traces (g : Game) (X : Set) (w : ℕ) (plan : ℕ → ℕ) (k x : ℕ) (L : Set) : Type 0 where
  pub within : Within L X
  pub some_walk : (n : ℕ) → In X n → Out L n → Walk g X w plan k n x
  pub no_walk : (n : ℕ) → In L n → Walk g X w plan k n x → ⊥

-- a search that begins: all of the claim's set is left, and the place that it goes back from stands in the queue
pub record Started (c : Claim) (heaviest place : ℕ) (s : SearchBack) : Type 0 where
  pub claim : s.claim ≡ c
  pub weighs : s.heaviest ≡ heaviest
  pub left : s.left.now ≡ c.set.now
  pub first : slice_index s.queue.now 0 ≡ place
  pub one : s.tail ≡ 1

-- a search that is through with what was left
abbrev pub Traced : SearchBack → SearchBack → Type 0
Traced s s' = Traces s.claim.graph.now (members s.left.now) (number s.claim.side) (goes s.claim.answer.now) s.heaviest (slice_index s.queue.now 0) (members s'.left.now)
