-- What `distances_to` promises, and what the functions below it do.
use Rattle.std.specs.Prelude.{◌≡◌, ℕ, ◌+◌, ◌*◌, ◌<◌, ◌≤◌, ◌↔◌, List, length, drop, Ok, Err, Result, slice_index}
use Rattle.endless.specs.Games.{Game, Reads, May}
use Rattle.endless.specs.Says.{goes}
use Rattle.endless.specs.Graph.{moves}
use Rattle.endless.specs.Pulling.{Unchanged}
use Rattle.distance.specs.Sooner.{never, Numbers}
use Rattle.distance.specs.Spreading.{number}
use Rattle.endless.specs.declared.refusal.Refusal.{Refusal}
use Rattle.endless.specs.declared.refusal.Refusal.TheVariants.{Few, NoGame, NoPlace, OutFull}

-- the first places have no number yet, some move, and all their moves before them; behind the words of the game's places nothing changed
pub record Cleared (g : Game) (upto : ℕ) (before out awaited : List ℕ) : Type 0 where
  pub numbers : (n : ℕ) → n < upto → number out n ≡ never
  pub may : (n : ℕ) → n < upto → May g n (goes out n)
  pub counts : (n : ℕ) → n < upto → slice_index awaited n ≡ length (moves g n)
  pub behind : (n : ℕ) → upto ≤ n → Unchanged before out n

-- `distances_to`: what each answer says
abbrev pub DistancesSays : List ℕ → ℕ → ℕ → List ℕ → List ℕ → Result (Unit {0}) Refusal → Type 0
DistancesSays s w target o o' (Ok u) = (g : Game) × Reads s g × (target < length g) × (2 * length g ≤ length o) × Numbers g w target (number o') (goes o') × (drop (2 * length g) o' ≡ drop (2 * length g) o)
DistancesSays s w target o o' (Err OutFull) = (g : Game) × Reads s g × (target < length g) × (length o < 2 * length g) × (o' ≡ o)
DistancesSays s w target o o' (Err NoPlace) = (g : Game) × Reads s g × (length g ≤ target) × (o' ≡ o)
DistancesSays s w target o o' (Err NoGame) = ((g : Game) → Reads s g → ⊥) × (o' ≡ o)
DistancesSays s w target o o' (Err Few) = o' ≡ o

pub record DistancesPost (s : List ℕ) (lent w target : ℕ) (o o' : List ℕ) (r : Result (Unit {0}) Refusal) : Type 0 where
  pub says : DistancesSays s w target o o' r
  pub few : (lent < 65536 + 4 * length s) ↔ (r ≡ Err Few)
