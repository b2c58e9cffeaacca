-- One round: the places with a move into a part that is new are taken out, and put in again group by group.
use Rattle.std.specs.Prelude.{◌≡◌, ℕ, ◌<◌, ◌≤◌, Bool, not, ◌&&◌, ◌==◌, List, length, slice_index}
use Rattle.endless.specs.Sets.{In}
use Rattle.endless.specs.Bits.{members, count}
use Rattle.endless.specs.Games.{Game, May}
use Rattle.quotient.specs.Refining.{part, InParts, Same, Sound}

-- a place is in part q, and not out
abbrev pub inside : List ℕ → List ℕ → ℕ → ℕ → Bool
inside parts out q n = (part parts n == q) && not (members out n)

-- how many places are in each part, those that are out not counted
abbrev pub Sized : Game → List ℕ → List ℕ → List ℕ → Type 0
Sized g parts out sizes = (q : ℕ) → slice_index sizes q ≡ count (inside parts out q) (length g)

-- the first `many` of a list are the places that are out
pub record Taken (g : Game) (parts sizes list out : List ℕ) (many : ℕ) : Type 0 where
  pub sized : Sized g parts out sizes
  pub counted : count (members out) (length g) ≡ many
  pub places : (j : ℕ) → j < many → slice_index list j < length g
  pub are_out : (j : ℕ) → j < many → In (members out) (slice_index list j)
  pub listed : (n : ℕ) → In (members out) n → (j : ℕ) × (j < many) × (slice_index list j ≡ n)
  pub once : (j k : ℕ) → j < k → k < many → slice_index list j ≡ slice_index list k → ⊥

-- the first `many` of a list are the places whose part is `first` or one behind
pub record Fresh (g : Game) (parts list : List ℕ) (first many : ℕ) : Type 0 where
  pub few : many ≤ length list
  pub places : (j : ℕ) → j < many → slice_index list j < length g
  pub new : (j : ℕ) → j < many → first ≤ part parts (slice_index list j)
  pub all : (n : ℕ) → n < length g → first ≤ part parts n → (j : ℕ) × (j < many) × (slice_index list j ≡ n)

-- a place may move into a part that is `first` or one behind
abbrev pub Stirred : Game → List ℕ → ℕ → ℕ → Type 0
Stirred g parts first n = (m : ℕ) × May g n m × (first ≤ part parts m)

-- each of so many numbers is that of a part with a place
pub record Named (g : Game) (parts : List ℕ) (many : ℕ) : Type 0 where
  pub below : (n : ℕ) → n < length g → part parts n < many
  pub place : (q : ℕ) → q < many → (n : ℕ) × (n < length g) × (part parts n ≡ q)

-- the parts of the places of a list are made anew, by what the old parts say of them; `many` is how many parts there were
pub record Parting (g : Game) (parts list parts' : List ℕ) (many : ℕ) : Type 0 where
  pub stays : (n : ℕ) → ((j : ℕ) → j < length list → slice_index list j ≡ n → ⊥) → part parts' n ≡ part parts n
  pub one : (j k : ℕ) → j < length list → k < length list → Same g parts (slice_index list j) (slice_index list k) → part parts' (slice_index list j) ≡ part parts' (slice_index list k)
  pub own : (j n : ℕ) → j < length list → n < length g → part parts' n ≡ part parts' (slice_index list j) → ((k : ℕ) × (k < length list) × (slice_index list k ≡ n)) × Same g parts n (slice_index list j)
  pub keeps : (j : ℕ) → j < length list → part parts' (slice_index list j) < many → part parts' (slice_index list j) ≡ part parts (slice_index list j)

-- places of one part, neither of which may move into a part that is new, are not told apart
abbrev pub Settled : Game → List ℕ → ℕ → Type 0
Settled g parts first = (n m : ℕ) → n < length g → m < length g → part parts n ≡ part parts m → (Stirred g parts first n → ⊥) → (Stirred g parts first m → ⊥) → Same g parts n m

-- between two rounds: `many` parts, of which those from `first` on are new, and whose places stand in a list
pub record Between (g : Game) (parts sizes list out : List ℕ) (words first many listed : ℕ) : Type 0 where
  pub in_parts : InParts g parts words
  pub sized : Sized g parts out sizes
  pub none_out : (n : ℕ) → In (members out) n → ⊥
  pub named : Named g parts many
  pub fresh : Fresh g parts list first listed
  pub sound : Sound g parts
  pub settled : Settled g parts first

-- for each part that a place is in, its first place
abbrev pub Firsts : List ℕ → List ℕ → Type 0
Firsts parts firsts = (n : ℕ) → n < length parts → (part firsts (part parts n) ≤ n) × (part parts (part firsts (part parts n)) ≡ part parts n)

-- each place has the first place of its part
abbrev pub ByFirst : List ℕ → List ℕ → List ℕ → Type 0
ByFirst parts firsts told = (n : ℕ) → n < length parts → part told n ≡ part firsts (part parts n)
