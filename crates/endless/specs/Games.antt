-- Games on places, plays without end.
use Rattle.std.specs.Prelude.{◌≡◌, ℕ, zero, suc, ◌%◌, ◌≤◌, Bool, true, false, ◌&&◌, T, List, [], ◌∷◌, ◌++◌, length, nat_le, nat_lt}
use Rattle.std.proofs.Math.Option.{Option, some, none}

abbrev pub pick : {A : Type 0} → Bool → A → A → A
pick true a b = a
pick false a b = b

abbrev pub opt : {A C : Type 0} → Option A → C → (A → C) → C
opt none c f = c
opt (some x) c f = f x

abbrev pub nth : {A : Type 0} → List A → ℕ → Option A
nth [] n = none
nth (x ∷ xs) zero = some x
nth (x ∷ xs) (suc n) = nth xs n

-- a place: whose move it is, 0 or 1; a weight; where one may move
pub record Place : Type 0 where
  pub whose : ℕ
  pub weight : ℕ
  pub moves : List ℕ

abbrev pub Game : Type 0
Game = List Place

abbrev pub below : ℕ → List ℕ → Bool
below n [] = true
below n (x ∷ xs) = nat_lt x n && below n xs

abbrev pub some_of : List ℕ → Bool
some_of [] = false
some_of (x ∷ xs) = true

abbrev pub ok_ps : ℕ → List Place → Bool
ok_ps n [] = true
ok_ps n (p ∷ ps) = (nat_lt p.whose 2 && nat_lt p.weight 256) && ((some_of p.moves && below n p.moves) && ok_ps n ps)

abbrev pub row : List Place → List ℕ
row [] = []
row (p ∷ ps) = p.whose ∷ p.weight ∷ length p.moves ∷ (p.moves ++ row ps)

-- words: how many places; for each whose, weight, how many moves, these
pub record Reads (s : List ℕ) (g : Game) : Type 0 where
  pub is : s ≡ length g ∷ row g
  pub fine : T (nat_le 1 (length g) && (nat_le (length g) 16384 && ok_ps (length g) g))

abbrev pub whose : Game → ℕ → ℕ
whose g n = opt (nth g n) 0 (λ p. p.whose)

abbrev pub weight : Game → ℕ → ℕ
weight g n = opt (nth g n) 0 (λ p. p.weight)

pub data Among (x : ℕ) : List ℕ → Type 0 where
  first : {xs : List ℕ} → Among x (x ∷ xs)
  later : {y : ℕ} {xs : List ℕ} → Among x xs → Among x (y ∷ xs)

abbrev pub May : Game → ℕ → ℕ → Type 0
May g n m = Among m (opt (nth g n) [] (λ p. p.moves))

-- a play is a place for each moment; it's by a plan of one side if that one always moves where the plan says, which looks only at the place
abbrev pub Play : Type 0
Play = ℕ → ℕ

abbrev pub Plays : Game → Play → Type 0
Plays g f = (i : ℕ) → May g (f i) (f (suc i))

abbrev pub ByPlan : Game → ℕ → (ℕ → ℕ) → Play → Type 0
ByPlan g w plan f = (i : ℕ) → whose g (f i) ≡ w → f (suc i) ≡ plan (f i)

-- the heaviest that comes again and again: from some moment on nothing heavier comes, and it always comes once more
pub record Heaviest (g : Game) (f : Play) (k : ℕ) : Type 0 where
  pub from : ℕ
  pub none_heavier : (i : ℕ) → from ≤ i → weight g (f i) ≤ k
  pub again : (i : ℕ) → (j : ℕ) × (i ≤ j) × (weight g (f j) ≡ k)

-- side 0 wins if that is even, side 1 if it's odd
abbrev pub Wins : Game → ℕ → Play → Type 0
Wins g w f = (k : ℕ) × Heaviest g f k × (k % 2 ≡ w)

abbrev pub other : ℕ → ℕ
other zero = 1
other (suc n) = 0
