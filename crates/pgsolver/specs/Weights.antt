-- Priorities made smaller: in order, and odd as before.
use Rattle.std.specs.Prelude.{◌≡◌, ℕ, ◌%◌, ◌<◌, ◌≤◌, Bool, T, ◌↔◌, List, [], ◌∷◌, map, length, Ok, Err, Result, IsSome, All, slice_index}
use Rattle.std.specs.BTreeMap.{BTreeMap, get}
use Rattle.std.specs.Option.{unwrap_or}
use Rattle.std.specs.Ordering.{nat_cmp}
use Rattle.pgsolver.specs.declared.weights.NoWeights.{NoWeights}
use Rattle.pgsolver.specs.declared.weights.NoWeights.TheVariants.{TooMany, Memory}
use Rattle.endless.specs.Games.{Game}
use Rattle.endless.specs.Says.{WinsFrom}

abbrev pub Below : ℕ → List ℕ → Type 0
Below m ws = (i : ℕ) → i < length ws → slice_index ws i < m

-- a lower priority has a lower weight, the same one the same, and each is odd as before
pub record Keeps (ps ws : List ℕ) : Type 0 where
  pub long : length ws ≡ length ps
  pub odd : (i : ℕ) → i < length ps → slice_index ws i % 2 ≡ slice_index ps i % 2
  pub rises : (i j : ℕ) → i < length ps → j < length ps → slice_index ps i < slice_index ps j → slice_index ws i < slice_index ws j
  pub same : (i j : ℕ) → i < length ps → j < length ps → slice_index ps i ≡ slice_index ps j → slice_index ws i ≡ slice_index ws j

-- two games that differ in their weights alone
abbrev pub Alike : Game → Game → Type 0
Alike [] [] = Unit {0}
Alike [] (q ∷ h) = ⊥
Alike (p ∷ g) [] = ⊥
Alike (p ∷ g) (q ∷ h) = (p.whose ≡ q.whose) × (p.moves ≡ q.moves) × Alike g h

abbrev pub weights_of : Game → List ℕ
weights_of [] = []
weights_of (p ∷ g) = p.weight ∷ weights_of g

-- where the weights are kept in order, and odd as before, the same plans win from the same places
abbrev pub SameWins : Type 0
SameWins = (g h : Game) → Alike g h → Keeps (weights_of g) (weights_of h) → (w : ℕ) (plan : ℕ → ℕ) (won : ℕ → Bool) → WinsFrom g w plan (λ n. T (won n)) ↔ WinsFrom h w plan (λ n. T (won n))

-- all below 256; as they were where they were so before
pub record Fitted (ps ws : List ℕ) : Type 0 where
  pub keeps : Keeps ps ws
  pub low : Below 256 ws
  pub plain : Below 256 ps → ws ≡ ps

-- no weights that keep order and oddness have one below 256 there
abbrev pub NoRoom : List ℕ → ℕ → Type 0
NoRoom ps at = (at < length ps) × ((ws : List ℕ) → Keeps ps ws → 256 ≤ slice_index ws at)

-- why there are no weights; want of memory says nothing
abbrev pub Unfit : List ℕ → NoWeights → Type 0
Unfit ps (TooMany at) = NoRoom ps at
Unfit ps Memory = Unit {0}

-- the weights that a map has for the priorities
abbrev pub weight_of : BTreeMap ℕ ℕ → ℕ → ℕ
weight_of m p = unwrap_or (get nat_cmp m p) 0

abbrev pub weights_by : BTreeMap ℕ ℕ → List ℕ → List ℕ
weights_by m ps = map (weight_of m) ps

abbrev pub Spreads : List ℕ → Result (BTreeMap ℕ ℕ) NoWeights → Type 0
Spreads ps (Ok m) = All (λ p. IsSome (get nat_cmp m p)) ps × Keeps ps (weights_by m ps) × Below 256 (weights_by m ps)
Spreads ps (Err e) = Unfit ps e
