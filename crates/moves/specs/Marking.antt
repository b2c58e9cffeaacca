-- Marks that are being set: what the steps do to the words.
use Rattle.std.specs.Prelude.{◌≡◌, ℕ, ◌+◌, ◌*◌, ◌<◌, ◌≤◌, ◌⊎◌, List, length, take, Some, None, Option, slice_index}
use Rattle.endless.specs.Games.{Game, whose}
use Rattle.endless.specs.Graph.{edges}
use Rattle.endless.specs.Says.{side}
use Rattle.endless.specs.View.{words_of}
use Rattle.endless.specs.Layout.{width}
use Rattle.endless.specs.Sides.{number}
use Rattle.endless.specs.declared.answer.Winner.{Winner}
use Rattle.moves.specs.Moves.{origin, target, WinningMove, winner, mark, room}

-- how many moves stand before those of place n
abbrev pub before : Game → ℕ → ℕ
before g n = edges (take n g)

-- a side's plan makes a move from n to m, at a place that the side wins
pub record Makes (g : Game) (sides : ℕ → ℕ) (w : ℕ) (plan : ℕ → ℕ) (n m : ℕ) : Type 0 where
  pub won : sides n ≡ w
  pub turn : whose g n ≡ w
  pub makes : plan n ≡ m

-- a mark is set where P is so, and else left as it is
abbrev pub SetIf : Type 0 → ℕ → ℕ → Type 0
SetIf P old new = (P × (new ≡ 1)) ⊎ ((P → ⊥) × (new ≡ old))

-- of the moves from the one with index i on, up to the one with index k, those are marked that a side's plan makes; nothing else changed
pub record Noted (g : Game) (sides : ℕ → ℕ) (w : ℕ) (plan : ℕ → ℕ) (i k : ℕ) (o o' : List ℕ) : Type 0 where
  pub set : (j : ℕ) → i ≤ j → j < k → SetIf (Makes g sides w plan (origin g j) (target g j)) (mark g o j) (mark g o' j)
  pub front : (j : ℕ) → j < length g + i → slice_index o' j ≡ slice_index o j
  pub rest : (j : ℕ) → length g + k ≤ j → slice_index o' j ≡ slice_index o j

-- the winners stand in the words, and no mark but at winning moves; of the first k moves all of these are marked; nothing changed behind
pub record Marking (g : Game) (sides : ℕ → ℕ) (first : List ℕ) (k : ℕ) (o : List ℕ) : Type 0 where
  pub winners : (n : ℕ) → n < length g → winner o n ≡ sides n
  pub zero_or_one : (j : ℕ) → j < edges g → mark g o j < 2
  pub sound : (j : ℕ) → j < edges g → mark g o j ≡ 1 → WinningMove g sides (origin g j) (target g j)
  pub complete : (j : ℕ) → j < k → WinningMove g sides (origin g j) (target g j) → mark g o j ≡ 1
  pub behind : (i : ℕ) → room g ≤ i → slice_index o i ≡ slice_index first i

-- the winners stand in the words, and no mark
pub record Begun (g : Game) (sides : ℕ → ℕ) (first o : List ℕ) : Type 0 where
  pub winners : (n : ℕ) → n < length g → winner o n ≡ sides n
  pub none : (j : ℕ) → j < edges g → mark g o j ≡ 0
  pub behind : (i : ℕ) → room g ≤ i → slice_index o i ≡ slice_index first i

-- there is room for the winners and marks, for a part of the places and a queue of them, for the words of a game as long, for an answer to it, and for the solver
pub record Roomy (g : Game) (all out part queue made tried work : List ℕ) : Type 0 where
  pub marks : room g ≤ length out
  pub parts : length part ≡ length all
  pub wide : length all ≡ width (length g)
  pub queues : length g ≤ length queue
  pub words : length made ≡ length (words_of g)
  pub answers : 2 * length g ≤ length tried
  pub lent : 65536 + 4 * length (words_of g) ≤ length work

-- the side that wins both ends of a move and is to move at the first, or that no side does
abbrev pub StaysIs : Game → (ℕ → ℕ) → ℕ → ℕ → Option Winner → Type 0
StaysIs g sides n m (Some w) = (sides n ≡ number w.0) × (whose g n ≡ number w.0) × (sides m ≡ sides n)
StaysIs g sides n m None = whose g n ≡ sides n → sides m ≡ sides n → ⊥

-- how many words are lent to try moves: for the words of the game that the answer leads and where its places start, for two sets, a queue, the words of a game and an answer to it, and for the solver
abbrev pub lent_for_tries : Game → ℕ
lent_for_tries g = 65536 + 6 * length (words_of g) + 5 * length g + 2 * width (length g)

-- all moves are seen to
abbrev pub TriedAll : Game → List ℕ → List ℕ → List ℕ → Type 0
TriedAll g a o o' = (first : List ℕ) → Marking g (side a) first 0 o → Marking g (side a) first (edges g) o'
