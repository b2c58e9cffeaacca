-- An answer of the smaller game, carried back.
use Rattle.std.specs.Prelude.{◌≡◌, ℕ, ◌+◌, ◌*◌, ◌<◌, ◌≤◌, ◌↔◌, List, length, Err, Result, slice_index}
use Rattle.endless.specs.declared.refusal.Refusal.{Refusal}
use Rattle.endless.specs.declared.refusal.Refusal.TheVariants.{Few}
use Rattle.endless.specs.Games.{Game, May}
use Rattle.endless.specs.Says.{side, goes}
use Rattle.endless.specs.Graph.{moves}
use Rattle.endless.specs.Pulling.{Unchanged}
use Rattle.endless.specs.Promises.{SolvedSays, Only}
use Rattle.quotient.specs.Gathering.{Into}
use Rattle.quotient.specs.Says.{Theorems}

-- the first places have the winners of the places that they became, and where they can, a move to some place that became the one that the plan names; behind them nothing changed
pub record Carries (g : Game) (to answer before : List ℕ) (i : ℕ) (out : List ℕ) : Type 0 where
  pub sides : (n : ℕ) → n < i → side out n ≡ side answer (slice_index to n)
  pub plan : (n : ℕ) → n < i → Into (moves g n) to (goes answer (slice_index to n)) → May g n (goes out n) × (slice_index to (goes out n) ≡ goes answer (slice_index to n))
  pub behind : (n : ℕ) → i ≤ n → Unchanged before out n

-- `solve_merged`: the promise of `solve`, with more words lent
pub record SolvedMergedPost (s : List ℕ) (lent : ℕ) (o o' : List ℕ) (r : Result (Unit {0}) Refusal) : Type 0 where
  pub says : SolvedSays s o o' r
  pub few : (lent < 65536 + 6 * length s) ↔ (r ≡ Err Few)
  pub only : Only s o' r
  pub theorems : Theorems
