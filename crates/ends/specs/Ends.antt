-- Games in which a place may have no moves, and plays that may end: whoever is to move at a place without moves has lost.
use Rattle.std.specs.Prelude.{◌≡◌, ℕ, suc, ◌<◌, Bool, true, ◌&&◌, T, List, [], ◌∷◌, length, ◌≢◌, nat_le, nat_lt}
use Rattle.endless.specs.Games.{Place, Game, pick, below, some_of, row, whose, May, Play, Plays, ByPlan, Wins, other}

-- as `ok_ps`, but that a place may have no moves
abbrev pub ok_ends : ℕ → List Place → Bool
ok_ends n [] = true
ok_ends n (p ∷ ps) = (nat_lt p.whose 2 && nat_lt p.weight 256) && (below n p.moves && ok_ends n ps)

-- words of the same form as a game's
pub record ReadsEnds (s : List ℕ) (g : Game) : Type 0 where
  pub is : s ≡ length g ∷ row g
  pub fine : T (nat_le 1 (length g) && (nat_le (length g) 16384 && ok_ends (length g) g))

-- a place without moves
abbrev pub NoMoves : Game → ℕ → Type 0
NoMoves g n = (n < length g) × ((m : ℕ) → May g n m → ⊥)

-- a play that ends is a finite row of places, a first one and others: each of these by a move from the one before, the last without moves
abbrev pub PlaysEnd : Game → ℕ → List ℕ → Type 0
PlaysEnd g n [] = NoMoves g n
PlaysEnd g n (m ∷ ms) = May g n m × PlaysEnd g m ms

-- it's by a plan of one side if that one moves where the plan says
abbrev pub ByPlanEnd : Game → ℕ → (ℕ → ℕ) → ℕ → List ℕ → Type 0
ByPlanEnd g w plan n [] = Unit {0}
ByPlanEnd g w plan n (m ∷ ms) = (whose g n ≡ w → m ≡ plan n) × ByPlanEnd g w plan m ms

abbrev pub last : ℕ → List ℕ → ℕ
last n [] = n
last n (m ∷ ms) = last m ms

-- it is won by the side that is not to move at its last place
abbrev pub WinsEnd : Game → ℕ → ℕ → List ℕ → Type 0
WinsEnd g w n ms = whose g (last n ms) ≡ other w

-- a plan wins for a side from some places: where it is the side's move it is a move and to one of these places; where it is not, all moves are to one of these places; the other side wins no play by it, neither one without end nor one that ends
pub record WinsFromEnds (g : Game) (w : ℕ) (plan : ℕ → ℕ) (won : ℕ → Type 0) : Type 0 where
  pub may : (n : ℕ) → won n → whose g n ≡ w → May g n (plan n) × won (plan n)
  pub held : (n m : ℕ) → won n → (whose g n ≢ w) → May g n m → won m
  pub not_lost : (f : Play) → won (f 0) → Plays g f → ByPlan g w plan f → Wins g (other w) f → ⊥
  pub not_ended : (n : ℕ) (ms : List ℕ) → won n → PlaysEnd g n ms → ByPlanEnd g w plan n ms → WinsEnd g (other w) n ms → ⊥

-- the game that is made of such a game: a place without moves gets one, to itself, and the weight of the kind of the side that is not to move there
abbrev pub mended : ℕ → Place → Place
mended i p = pick (some_of p.moves) p (record { whose = p.whose; weight = other p.whose; moves = i ∷ [] })

abbrev pub made_from : ℕ → List Place → Game
made_from i [] = []
made_from i (p ∷ ps) = mended i p ∷ made_from (suc i) ps

abbrev pub made : Game → Game
made g = made_from 0 g
