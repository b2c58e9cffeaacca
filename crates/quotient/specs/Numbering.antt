-- The parts numbered by their first places, and their words.
use Rattle.std.specs.Prelude.{◌≡◌, ℕ, ◌+◌, ◌<◌, ◌≤◌, Bool, List, [], ◌∷◌, ◌++◌, length, take, ◌==◌, slice_index}
use Rattle.endless.specs.Games.{Place, Game, row, whose, weight, Among}
use Rattle.endless.specs.Graph.{moves}
use Rattle.endless.specs.Sets.{In}
use Rattle.endless.specs.Bits.{members, size, count}
use Rattle.quotient.specs.Alike.{Ascending}
use Rattle.quotient.specs.Gathering.{Into, Nothing}
use Rattle.quotient.specs.Refining.{part}

-- whether a place is the first of its part
abbrev pub leads : List ℕ → ℕ → Bool
leads parts n = part parts n == n

-- how many parts have their first place below n: the number of the part whose first place is n
abbrev pub rank : List ℕ → ℕ → ℕ
rank parts n = count (leads parts) n

-- each place has the number of its part
abbrev pub Numbered : Game → List ℕ → List ℕ → Type 0
Numbered g parts numbers = (n : ℕ) → n < length g → slice_index numbers n ≡ rank parts (part parts n)

-- the members of a set were written from `at` on, and the set is empty
pub record Emptied (set words : List ℕ) (at : ℕ) (set' words' : List ℕ) (end : ℕ) : Type 0 where
  pub written : List ℕ
  pub put : take end words' ≡ take at words ++ written
  pub many : length written ≡ size set
  pub end_is : end ≡ at + size set
  pub ascending : Ascending written
  pub were : (q : ℕ) → Among q written → In (members set) q
  pub are : (q : ℕ) → In (members set) q → Among q written
  pub empty : Nothing set'
  pub behind : (k : ℕ) → end ≤ k → slice_index words' k ≡ slice_index words k

-- the place of the smaller game that the part of the place n is
pub record MadeOf (g : Game) (numbers : List ℕ) (n : ℕ) (p : Place) : Type 0 where
  pub owns : p.whose ≡ whose g n
  pub weighs : p.weight ≡ weight g n
  pub came : (q : ℕ) → Among q p.moves → Into (moves g n) numbers q
  pub are : (q : ℕ) → Into (moves g n) numbers q → Among q p.moves
  pub ascending : Ascending p.moves

-- its words were written from `at` on
pub record Put (g : Game) (numbers : List ℕ) (n : ℕ) (words : List ℕ) (at : ℕ) (words' : List ℕ) (end : ℕ) : Type 0 where
  pub place : Place
  pub made_of : MadeOf g numbers n place
  pub put : take end words' ≡ take at words ++ row (place ∷ [])
  pub grows : at ≤ end
  pub few : end ≤ at + 3 + length (moves g n)
  pub behind : (k : ℕ) → end ≤ k → slice_index words' k ≡ slice_index words k
