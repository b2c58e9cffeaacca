-- From where a side can bring every play to a place, and what `attract_to` promises.
use Rattle.std.specs.Prelude.{◌≡◌, ℕ, ◌+◌, ◌*◌, ◌<◌, ◌≤◌, ◌↔◌, List, length, drop, ◌≢◌, Ok, Err, Result}
use Rattle.endless.specs.Games.{Game, Reads, whose, May, Play, Plays, ByPlan, other}
use Rattle.endless.specs.Says.{side, goes}
use Rattle.endless.specs.Sets.{Set, In, Out, whole}
use Rattle.endless.specs.Attractors.{ClosedUnder, AttractorLaws}
use Rattle.endless.specs.Pulling.{Unchanged}
use Rattle.endless.specs.Levels.{Stays}
use Rattle.endless.specs.declared.refusal.Refusal.{Refusal}
use Rattle.endless.specs.declared.refusal.Refusal.TheVariants.{Few, NoGame, NoPlace, OutFull}

-- a place is given to a side, with a move that stays in U
pub record HandedTo (g : Game) (w : ℕ) (U : Set) (out : List ℕ) (n : ℕ) : Type 0 where
  pub labelled : side out n ≡ w
  pub stays : Stays g U n (goes out n)

-- the places of U are given to a side, with moves that stay in U; those outside U are as they were
pub record Handed (g : Game) (w : ℕ) (U : Set) (out out' : List ℕ) : Type 0 where
  pub frame : (n : ℕ) → Out U n → Unchanged out out' n
  pub all : (n : ℕ) → In U n → HandedTo g w U out' n

-- w can bring every play to the target from the places given to it, and the other side keeps every play that begins at one of its own away from it; each by the plan, which may be gone by and stays, but at the target, at places given to the same side; and w is given no more than has to be
pub record Reaches (g : Game) (w target : ℕ) (sides plan : ℕ → ℕ) : Type 0 where
  pub one_of_two : (n : ℕ) → n < length g → sides n < 2
  pub given : sides target ≡ w
  pub may : (n : ℕ) → n < length g → whose g n ≡ sides n → May g n (plan n)
  pub stays : (n : ℕ) → n < length g → whose g n ≡ sides n → (n ≢ target) → sides (plan n) ≡ sides n
  pub brings : (f : Play) → Plays g f → ByPlan g w plan f → sides (f 0) ≡ w → (i : ℕ) × (f i ≡ target)
  pub keeps_away : (f : Play) → Plays g f → ByPlan g (other w) plan f → sides (f 0) ≡ other w → (i : ℕ) → f i ≢ target
  pub least : (B : Set) → In B target → ClosedUnder g (whole g) w B → (n : ℕ) → n < length g → sides n ≡ w → In B n

-- `attract_to`: what each answer says
abbrev pub ReachedSays : List ℕ → ℕ → ℕ → List ℕ → List ℕ → Result (Unit {0}) Refusal → Type 0
ReachedSays s w target o o' (Ok u) = (g : Game) × Reads s g × (target < length g) × (2 * length g ≤ length o) × Reaches g w target (side o') (goes o') × (drop (2 * length g) o' ≡ drop (2 * length g) o)
ReachedSays s w target o o' (Err OutFull) = (g : Game) × Reads s g × (target < length g) × (length o < 2 * length g) × (o' ≡ o)
ReachedSays s w target o o' (Err NoPlace) = (g : Game) × Reads s g × (length g ≤ target) × (o' ≡ o)
ReachedSays s w target o o' (Err NoGame) = ((g : Game) → Reads s g → ⊥) × (o' ≡ o)
ReachedSays s w target o o' (Err Few) = o' ≡ o

pub record ReachPost (s : List ℕ) (lent w target : ℕ) (o o' : List ℕ) (r : Result (Unit {0}) Refusal) : Type 0 where
  pub says : ReachedSays s w target o o' r
  pub few : (lent < 65536 + 4 * length s) ↔ (r ≡ Err Few)
  pub laws : AttractorLaws
