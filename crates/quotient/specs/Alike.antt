-- Places that are alike, and the smaller game in which they are one.
use Rattle.std.specs.Prelude.{◌≡◌, ℕ, ◌<◌, Bool, T, List, [], ◌∷◌, length}
use Rattle.endless.specs.Games.{Game, whose, weight, Among, May}
use Rattle.endless.specs.Graph.{moves}

-- a relation by which places are alike: related places have the same side and the same weight, and to whatever the one may move, the other may move to what is related to it
pub record Bisimulation (g : Game) (R : ℕ → ℕ → Bool) : Type 0 where
  pub owns : (n m : ℕ) → T (R n m) → whose g n ≡ whose g m
  pub weighs : (n m : ℕ) → T (R n m) → weight g n ≡ weight g m
  pub there : (n m a : ℕ) → T (R n m) → May g n a → (b : ℕ) × May g m b × T (R a b)
  pub back : (n m b : ℕ) → T (R n m) → May g m b → (a : ℕ) × May g n a × T (R a b)

-- each greater than those before it
abbrev pub Ascending : List ℕ → Type 0
Ascending [] = Unit {0}
Ascending (x ∷ xs) = ((y : ℕ) → Among y xs → x < y) × Ascending xs

-- h is g with places that are alike made one, and `to` says which place of h each became: it keeps side and weight, and moves both ways; no two places of h are alike, and places of g that are alike became one; the places of h are numbered by the first that became them, and each has its moves once, in ascending order
pub record Merged (g h : Game) (to : ℕ → ℕ) : Type 0 where
  pub inside : (n : ℕ) → n < length g → to n < length h
  pub owns : (n : ℕ) → n < length g → whose h (to n) ≡ whose g n
  pub weighs : (n : ℕ) → n < length g → weight h (to n) ≡ weight g n
  pub there : (n m : ℕ) → May g n m → May h (to n) (to m)
  pub back : (n q : ℕ) → n < length g → May h (to n) q → (m : ℕ) × May g n m × (to m ≡ q)
  pub first : (p : ℕ) → p < length h → (n : ℕ) × (n < length g) × (to n ≡ p) × ((m : ℕ) → m < n → to m < p)
  pub ascending : (p : ℕ) → Ascending (moves h p)
  pub coarsest : (R : ℕ → ℕ → Bool) (n m : ℕ) → Bisimulation g R → n < length g → m < length g → T (R n m) → to n ≡ to m
  pub none_alike : (R : ℕ → ℕ → Bool) (p q : ℕ) → Bisimulation h R → p < length h → q < length h → T (R p q) → p ≡ q
