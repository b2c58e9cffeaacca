-- How soon a side can make sure that the play comes to a place, told in plays.
use Rattle.std.specs.Prelude.{◌≡◌, ℕ, zero, suc, ◌<◌, ◌≤◌, List, [], ◌∷◌, length, ◌≢◌}
use Rattle.endless.specs.Games.{Game, whose, May, Play, Plays, ByPlan, other}

-- the number that says that a side cannot make sure of it
abbrev pub never : ℕ
never = 4294967295

-- the places of a play up to a moment, the latest first
abbrev pub so_far : Play → ℕ → List ℕ
so_far f zero = f 0 ∷ []
so_far f (suc i) = f (suc i) ∷ so_far f i

-- what a side does, looking at all that has happened: a move for each row of places, the latest of which is first
abbrev pub Moving : Game → ℕ → (List ℕ → ℕ) → Type 0
Moving g w way = (n : ℕ) (ns : List ℕ) → n < length g → whose g n ≡ w → May g n (way (n ∷ ns))

abbrev pub ByWay : Game → ℕ → (List ℕ → ℕ) → Play → Type 0
ByWay g w way f = (i : ℕ) → whose g (f i) ≡ w → f (suc i) ≡ way (so_far f i)

-- every play by the plan from n has come to the target after at most d moves
abbrev pub ComesWithin : Game → ℕ → ℕ → (ℕ → ℕ) → ℕ → ℕ → Type 0
ComesWithin g w target plan n d = (f : Play) → Plays g f → ByPlan g w plan f → f 0 ≡ n → (i : ℕ) × (i ≤ d) × (f i ≡ target)

-- whatever w does, looking at all that has happened: for every k below d there is a play by it from n that has not come to the target within k moves
abbrev pub NotSooner : Game → ℕ → ℕ → ℕ → ℕ → Type 0
NotSooner g w target n d = (way : List ℕ → ℕ) → Moving g w way → (k : ℕ) → k < d → (f : Play) × (f 0 ≡ n) × Plays g f × ByWay g w way f × ((i : ℕ) → i ≤ k → f i ≢ target)

-- d is how many moves it takes w from n: by some plan it takes no more, and nothing that w does takes less
pub record Takes (g : Game) (w target n d : ℕ) : Type 0 where
  pub plan : ℕ → ℕ
  pub may : (m : ℕ) → m < length g → whose g m ≡ w → May g m (plan m)
  pub comes : ComesWithin g w target plan n d
  pub not_sooner : NotSooner g w target n d

-- the other side has a plan that may be gone by, and by which no play from a place with the number `never` comes to the target, and none from elsewhere in fewer moves than its number
abbrev pub KeptOff : Game → ℕ → ℕ → (ℕ → ℕ) → Type 0
KeptOff g w target number = (reply : ℕ → ℕ) × ((n : ℕ) → n < length g → May g n (reply n)) ×
    ((f : Play) → Plays g f → ByPlan g (other w) reply f → number (f 0) ≡ never → (i : ℕ) → f i ≢ target) ×
    ((f : Play) → Plays g f → ByPlan g (other w) reply f → (i : ℕ) → i < number (f 0) → f i ≢ target)

-- for each place the number of moves in which w can make sure of the target, or `never`, and one plan that does it in so many from all of them; the numbers are the only right ones
pub record Numbers (g : Game) (w target : ℕ) (number plan : ℕ → ℕ) : Type 0 where
  pub size : (n : ℕ) → n < length g → (number n ≢ never) → number n < length g
  pub zero_at : number target ≡ 0
  pub may : (n : ℕ) → n < length g → May g n (plan n)
  pub comes : (n : ℕ) → n < length g → (number n ≢ never) → ComesWithin g w target plan n (number n)
  pub not_sooner : (n : ℕ) → n < length g → NotSooner g w target n (number n)
  pub kept_off : KeptOff g w target number
  pub only : (n d : ℕ) → n < length g → Takes g w target n d → number n ≡ d
