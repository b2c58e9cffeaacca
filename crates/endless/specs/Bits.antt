-- Sets of places as the bits of words: place i is bit i % 32 of word i / 32.
use Rattle.std.specs.Prelude.{◌≡◌, ℕ, zero, suc, ◌+◌, ◌*◌, ◌/◌, ◌%◌, ◌^◌, ◌<◌, ◌≤◌, Bool, true, false, cond, not, ◌&&◌, ◌||◌, List, length, ◌==◌, slice_index}

-- whether bit k of a word is set
unfoldable pub digit : ℕ → ℕ → Bool
digit w k = w / 2 ^ k % 2 == 1

-- the set that words hold
unfoldable pub members : List ℕ → ℕ → Bool
members l i = digit (slice_index l (i / 32)) (i % 32)

-- how many of 0 .. n - 1 are in a set
unfoldable pub count : (ℕ → Bool) → ℕ → ℕ
count f zero = 0
count f (suc n) = cond (f n) 1 0 + count f n

-- how many members the set has
unfoldable pub size : List ℕ → ℕ
size l = count (members l) (32 * length l)

-- r is l with i in it
pub record Inserted (l : List ℕ) (i : ℕ) (r : List ℕ) : Type 0 where
  pub are : (j : ℕ) → members r j ≡ (j == i || members l j)
  pub grows : members l i ≡ false → size r ≡ size l + 1

-- r is l without i
pub record Removed (l : List ℕ) (i : ℕ) (r : List ℕ) : Type 0 where
  pub are : (j : ℕ) → members r j ≡ (not (j == i) && members l j)
  pub shrinks : members l i ≡ true → size r + 1 ≡ size l

-- m is the least in a set at or after i
pub record Least (f : ℕ → Bool) (i m : ℕ) : Type 0 where
  pub after : i ≤ m
  pub is : f m ≡ true
  pub none : (j : ℕ) → i ≤ j → j < m → f j ≡ false

-- a set has none at or after i
abbrev pub NoneFrom : (ℕ → Bool) → ℕ → Type 0
NoneFrom f i = (j : ℕ) → i ≤ j → f j ≡ false
