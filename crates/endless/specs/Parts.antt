-- A closed part of a subgame: all that can be come to from a place.
use Rattle.std.specs.Prelude.{◌≡◌, ℕ, ◌+◌, ◌*◌, ◌<◌, ◌≤◌, Bool, true, false, ◌⊎◌, ◌↔◌, List, length, Some, None, Option, option_map, unwrap_or, ◌≢◌, slice_index, slice_set}
use Rattle.std.specs.Option.{ForSome}
use Rattle.std.specs.Iterator.{AlwaysYields}
use Rattle.endless.specs.Games.{Game}
use Rattle.endless.specs.Says.{side}
use Rattle.endless.specs.Sets.{Set, In, Out, Within}
use Rattle.endless.specs.Subgames.{Closed}
use Rattle.endless.specs.Sides.{number}
use Rattle.endless.specs.Bits.{members, size, Removed}
use Rattle.endless.specs.Pulling.{Passed}
use Rattle.endless.specs.declared.side.Side.{Side}

-- a part has as many words as its set, and the queue has room for all places of the set
pub record Spacious (own part queue : List ℕ) : Type 0 where
  pub same : length part ≡ length own
  pub room : size own ≤ length queue

-- the first `count` places of the queue are the places of a part of a set, each once
pub record Listing (own part queue : List ℕ) (count : ℕ) : Type 0 where
  pub inside : Within (members part) (members own)
  pub counts : count ≡ size part
  pub queued : (j : ℕ) → j < count → In (members part) (slice_index queue j)
  pub listed : (n : ℕ) → In (members part) n → Passed queue count n

-- a list has the places of R, and no others
abbrev pub Told : List ℕ → Set → Type 0
Told list R = (n : ℕ) → In R n ↔ Passed list (length list) n

-- a list has all places of a set
abbrev pub Covers : List ℕ → List ℕ → Type 0
Covers own list = (n : ℕ) → In (members own) n → Passed list (length list) n

-- a list has all places of a set, and no place that the words of the set have no bit for
pub record Listed (own list : List ℕ) : Type 0 where
  pub covers : Covers own list
  pub inside : (j : ℕ) → j < length list → slice_index list j < 32 * length own

-- an iterator of places gives those of a list, one after another, and no others
abbrev pub Gives : {S : Type 0} → (S → Option ℕ → S → Type 0) → S → List ℕ → Type 0
Gives next_gives s list = AlwaysYields next_gives (λ n. n) s list

-- R is a part of what words hold, with a place of it, if there is any: told by a list of its places, or else all of it
pub record Part (own : List ℕ) (list : Option (List ℕ)) (R : Set) : Type 0 where
  pub within : Within R (members own)
  pub some_place : 0 < size own → (n : ℕ) × In R n
  pub whole : list ≡ None → Within (members own) R
  pub told : ForSome list (λ l. Told l R)

-- a list, if there is a number, of so many of the first words of the queue
pub record Saved (queue : List ℕ) (count : Option ℕ) (list : Option (List ℕ)) : Type 0 where
  pub long : option_map length list ≡ count
  pub copied : ForSome list (λ l. (j : ℕ) → j < length l → slice_index l j ≡ slice_index queue j)

-- a closed part is taken, with a place, if there is any: told by each copy of the first `count` words of the queue, or all of the set, where there is no such number
pub record PartTaken (g : Game) (own part queue : List ℕ) (count : Option ℕ) : Type 0 where
  pub few : ForSome count (λ k. k ≤ size own)
  pub sizes : unwrap_or count (size own) ≡ size part
  pub some_place : 0 < size own → 0 < size part
  pub closed : Closed g (members own) (members part)
  pub listed : (list : Option (List ℕ)) → Saved queue count list → Part own list (members part)

-- the places asked for: those that an answer gives to a side, or all
abbrev pub wanted : Option Side → List ℕ → ℕ → ℕ
wanted (Some w) out n = side out n
wanted None out n = 0

abbrev pub mark : Option Side → ℕ
mark (Some w) = number w
mark None = 0

-- a place goes from what is left to the queue, if it is left and f is k there
abbrev pub PickedIf : (ℕ → ℕ) → ℕ → ℕ → ℕ → List ℕ → List ℕ → List ℕ → List ℕ → ℕ → Type 0
PickedIf f k n count left queue left' queue' r =
    ((r ≡ count) × (left' ≡ left) × (queue' ≡ queue) × (In (members left) n → f n ≢ k))
    ⊎ ((r ≡ count + 1) × In (members left) n × (f n ≡ k) × Removed left n left' × (queue' ≡ slice_set queue count n))

-- whether a set has a place
abbrev pub Any : Set → Bool → Type 0
Any D true = (n : ℕ) × In D n
Any D false = (n : ℕ) → Out D n

-- whether f is k at any of the first i places of a list
abbrev pub AnyAt : (ℕ → ℕ) → ℕ → List ℕ → ℕ → Bool → Type 0
AnyAt f k list i true = (j : ℕ) × (j < i) × (f (slice_index list j) ≡ k)
AnyAt f k list i false = (j : ℕ) → j < i → f (slice_index list j) ≢ k
