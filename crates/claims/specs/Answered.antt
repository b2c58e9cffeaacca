-- The words of an answer, as lines tell them that name places.
use Rattle.std.specs.Prelude.{◌≡◌, ℕ, ◌+◌, ◌*◌, List, length, Some, None, Option, ◌≢◌, slice_get, slice_index}

-- what a line tells: the name of a place, the side that wins it, and the name of its move, if it has one
pub record Told (K : Type 0) : Type 0 where
  pub named : K
  pub side : ℕ
  pub goes : Option K

-- one of those told is of this name
abbrev pub ToldOf : {K : Type 0} → List (Told K) → K → Type 0
ToldOf {K} ts x = (j : ℕ) × (t : Told K) × (slice_get ts j ≡ Some t) × (t.named ≡ x)

-- none of the names is this one
abbrev pub Lacks : {K : Type 0} → List K → K → Type 0
Lacks names x = (i : ℕ) → slice_get names i ≢ Some x

-- no two are the same
abbrev pub Differ : {K : Type 0} → List K → Type 0
Differ {K} names = (i j : ℕ) (x : K) → slice_get names i ≡ Some x → slice_get names j ≡ Some x → i ≡ j

-- the word of a move: the place of this name, or where none is named what is no place
abbrev pub Goes : {K : Type 0} → List K → Option K → ℕ → Type 0
Goes names None w = w ≡ 4294967295
Goes names (Some x) w = slice_get names w ≡ Some x

-- the two words of place i are those of what is told
pub record Worded {K : Type 0} (names : List K) (words : List ℕ) (i : ℕ) (t : Told K) : Type 0 where
  pub place : slice_get names i ≡ Some t.named
  pub side : slice_index words (2 * i) ≡ t.side
  pub goes : Goes names t.goes (slice_index words (2 * i + 1))

-- number j tells of the place of this name, and no other does
pub record Only {K : Type 0} (ts : List (Told K)) (x : K) (j : ℕ) : Type 0 where
  pub told : Told K
  pub is : slice_get ts j ≡ Some told
  pub named : told.named ≡ x
  pub one : (l : ℕ) (t : Told K) → slice_get ts l ≡ Some t → t.named ≡ x → l ≡ j

-- two words for each place, those that are told of it, and just one that tells of each
pub record Answered {K : Type 0} (names : List K) (ts : List (Told K)) (words : List ℕ) : Type 0 where
  pub many : length words ≡ 2 * length names
  pub told : (j : ℕ) (t : Told K) → slice_get ts j ≡ Some t → (i : ℕ) × Worded names words i t
  pub each : (i : ℕ) (x : K) → slice_get names i ≡ Some x → (j : ℕ) × Only ts x j
