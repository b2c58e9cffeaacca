-- The theorems about a game and the smaller one, as types.
use Rattle.std.specs.Prelude.{◌≡◌, ℕ, ◌<◌, Bool, T, List, length}
use Rattle.endless.specs.Games.{Game, Reads, whose, May}
use Rattle.endless.specs.Says.{WinsFrom}
use Rattle.quotient.specs.Alike.{Merged}

-- a plan of the smaller game carried back: at a side's places, a move to some place that became the one that the plan names
abbrev pub CarriedBack : Game → (ℕ → ℕ) → ℕ → (ℕ → ℕ) → (ℕ → Bool) → (ℕ → ℕ) → Type 0
CarriedBack g to w plan won carried = (n : ℕ) → n < length g → T (won (to n)) → whose g n ≡ w → May g n (carried n) × (to (carried n) ≡ plan (to n))

-- a plan that wins in the smaller game can be carried back, and wins in the whole, however it is carried back, from all places that became those from which it wins
abbrev pub PlanCarries : Type 0
PlanCarries = (s : List ℕ) (g h : Game) (to : ℕ → ℕ) (w : ℕ) (plan : ℕ → ℕ) (won : ℕ → Bool) → Reads s g → Merged g h to → WinsFrom h w plan (λ p. T (won p)) →
    ((carried : ℕ → ℕ) × CarriedBack g to w plan won carried)
    × ((carried : ℕ → ℕ) → CarriedBack g to w plan won carried → WinsFrom g w carried (λ n. (n < length g) × T (won (to n))))

-- each place is won in the whole game by the side that wins its place in the smaller one: whatever plan wins for a side in the whole, wins only places whose place in the smaller one that side wins there
abbrev pub SameWinners : Type 0
SameWinners = (s : List ℕ) (g h : Game) (to sides a b : ℕ → ℕ) (w : ℕ) (plan : ℕ → ℕ) (won : ℕ → Bool) (n : ℕ) → Reads s g → Merged g h to →
    ((p : ℕ) → p < length h → sides p < 2) → WinsFrom h 0 a (λ p. (p < length h) × (sides p ≡ 0)) → WinsFrom h 1 b (λ p. (p < length h) × (sides p ≡ 1)) →
    w < 2 → WinsFrom g w plan (λ m. T (won m)) → n < length g → T (won n) → sides (to n) ≡ w

pub record Theorems : Type 0 where
  pub plan_carries : PlanCarries
  pub same_winners : SameWinners
