-- Sets of places, as tests. `minus` and its like stay shut: proofs go by their laws (proofs/Sets).
use Rattle.std.specs.Prelude.{ℕ, zero, suc, Bool, false, cond, not, ◌&&◌, ◌||◌, T, List, [], ◌∷◌, length, ◌==◌, nat_lt}
use Rattle.endless.specs.Games.{Game}

abbrev pub Set : Type 0
Set = ℕ → Bool

abbrev pub In : Set → ℕ → Type 0
In U n = T (U n)

abbrev pub Out : Set → ℕ → Type 0
Out U n = T (U n) → ⊥

abbrev pub Within : Set → Set → Type 0
Within X U = (n : ℕ) → In X n → In U n

-- the places of the one that are not in the other
unfoldable pub minus : Set → Set → Set
minus U A n = U n && not (A n)

unfoldable pub union : Set → Set → Set
union U A n = U n || A n

unfoldable pub empty : Set
empty n = false

-- all places of a game
unfoldable pub whole : Game → Set
whole g n = nat_lt n (length g)

-- the places of a set at which a function has a value: those of a weight, or those that a side wins
unfoldable pub having : Set → (ℕ → ℕ) → ℕ → Set
having U f k n = U n && f n == k

-- how many places below a bound are in a set
unfoldable pub size : Set → ℕ → ℕ
size U zero = 0
size U (suc b) = cond (U b) (suc (size U b)) (size U b)

-- so of each place of a list
abbrev pub Each : (ℕ → Type 0) → List ℕ → Type 0
Each P [] = Unit {0}
Each P (n ∷ ns) = P n × Each P ns
