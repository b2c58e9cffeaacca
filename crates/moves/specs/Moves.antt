-- All moves that winning plans make, and what `winning_moves` promises.
use Rattle.std.specs.Prelude.{◌≡◌, ℕ, suc, ◌+◌, ◌*◌, ◌<◌, ◌≤◌, ◌↔◌, List, [], ◌∷◌, ◌++◌, length, drop, replicate, Ok, Err, Result, slice_index}
use Rattle.endless.specs.declared.refusal.Refusal.{Refusal}
use Rattle.endless.specs.declared.refusal.Refusal.TheVariants.{Few, NoGame, NoPlace, OutFull}
use Rattle.endless.specs.Games.{Place, Game, Reads, whose}
use Rattle.endless.specs.Says.{WinsFrom}
use Rattle.endless.specs.Graph.{edges}

-- the moves of a game in the order of its words: the place that has each, numbered from n, and where each leads
abbrev pub origins : ℕ → List Place → List ℕ
origins n [] = []
origins n (p ∷ ps) = replicate (length p.moves) n ++ origins (suc n) ps

abbrev pub targets : List Place → List ℕ
targets [] = []
targets (p ∷ ps) = p.moves ++ targets ps

abbrev pub origin : Game → ℕ → ℕ
origin g k = slice_index (origins 0 g) k

abbrev pub target : Game → ℕ → ℕ
target g k = slice_index (targets g) k

-- the places that are given to a side
abbrev pub Given : Game → (ℕ → ℕ) → ℕ → ℕ → Type 0
Given g sides w n = (n < length g) × (sides n ≡ w)

-- a winning move from n to m: it is the turn of the side that wins n, and some plan wins for that side from all places given to it, and makes this move at n
pub record WinningMove (g : Game) (sides : ℕ → ℕ) (n m : ℕ) : Type 0 where
  pub turn : whose g n ≡ sides n
  pub plan : ℕ → ℕ
  pub wins : WinsFrom g (sides n) plan (Given g sides (sides n))
  pub makes : plan n ≡ m

-- an answer as words: for each place who wins it, and then for each move a mark
abbrev pub winner : List ℕ → ℕ → ℕ
winner o n = slice_index o n

abbrev pub mark : Game → List ℕ → ℕ → ℕ
mark g o k = slice_index o (length g + k)

abbrev pub room : Game → ℕ
room g = length g + edges g

-- each place is won by one of two sides, which has one plan for all its places; a mark is 0 or 1, and it is 1 exactly at the winning moves
pub record Marked (g : Game) (o : List ℕ) : Type 0 where
  pub one_of_two : (n : ℕ) → n < length g → winner o n < 2
  pub won : (w : ℕ) → w < 2 → (plan : ℕ → ℕ) × WinsFrom g w plan (Given g (winner o) w)
  pub zero_or_one : (k : ℕ) → k < edges g → mark g o k < 2
  pub exactly : (k : ℕ) → k < edges g → ((mark g o k ≡ 1) ↔ WinningMove g (winner o) (origin g k) (target g k))

-- how many words have to be lent: 65,536, and 9 for each word of the game
abbrev pub lent_for_moves : List ℕ → ℕ
lent_for_moves s = 65536 + 9 * length s

-- `winning_moves`: what each answer says
abbrev pub MovesSay : List ℕ → List ℕ → List ℕ → Result (Unit {0}) Refusal → Type 0
MovesSay s o o' (Ok u) = (g : Game) × Reads s g × (room g ≤ length o) × Marked g o' × (drop (room g) o' ≡ drop (room g) o)
MovesSay s o o' (Err OutFull) = (g : Game) × Reads s g × (length o < room g) × (o' ≡ o)
MovesSay s o o' (Err NoGame) = ((g : Game) → Reads s g → ⊥) × (o' ≡ o)
MovesSay s o o' (Err Few) = o' ≡ o
MovesSay s o o' (Err NoPlace) = ⊥

pub record MovesPost (s : List ℕ) (lent : ℕ) (o o' : List ℕ) (r : Result (Unit {0}) Refusal) : Type 0 where
  pub says : MovesSay s o o' r
  pub few : (lent < lent_for_moves s) ↔ (r ≡ Err Few)
