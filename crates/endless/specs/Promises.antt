-- What the public calls promise: their answers, and with them the theorems, so that the gate asks for the proofs.
use Rattle.std.specs.Prelude.{◌≡◌, ℕ, ◌+◌, ◌*◌, ◌<◌, ◌≤◌, Bool, T, ◌↔◌, List, length, drop, Ok, Err, Result}
use Rattle.endless.specs.declared.refusal.Refusal.{Refusal}
use Rattle.endless.specs.declared.refusal.Refusal.TheVariants.{Few, NoGame, NoPlace, OutFull}
use Rattle.endless.specs.Games.{Game, Reads}
use Rattle.endless.specs.Says.{WinsFrom, OneGame, NotBoth, EachIsWon, OneWins, RoundsAreWon, RoundsWin, OnlyAnswer, SomeHeaviest, SomeHeaviestFound, NamedAsShift, PlanWins, WinnerWins, side, goes}
use Rattle.endless.specs.Example.{ThreePlaces}
use Rattle.endless.specs.Layout.{LentIsEnough, LevelsFall}

pub record Parts : Type 0 where
  pub p1 : OneGame
  pub p2 : NotBoth
  pub p3 : EachIsWon
  pub p4 : OneWins
  pub p5 : RoundsAreWon
  pub p6 : RoundsWin

-- further: the answer is the only one, and that no play is lost is not said of nothing; the lent words are enough, and each level is above fewer; and the worked example
pub record Further : Type 0 where
  pub only_answer : OnlyAnswer
  pub some_heaviest : SomeHeaviest
  pub some_heaviest_found : SomeHeaviestFound
  pub named_as_shift : NamedAsShift
  pub plan_wins : PlanWins
  pub winner_wins : WinnerWins
  pub lent_is_enough : LentIsEnough
  pub levels_fall : LevelsFall
  pub example : ThreePlaces

-- `is_game`: true exactly where some game reads as the words
pub record IsGamePost (s : List ℕ) (r : Bool) : Type 0 where
  pub says : T r ↔ ((g : Game) × Reads s g)
  pub parts : Parts

-- `solve`: what each answer says
abbrev pub SolvedSays : List ℕ → List ℕ → List ℕ → Result (Unit {0}) Refusal → Type 0
SolvedSays s o o' (Ok u) = (g : Game) × Reads s g × (2 * length g ≤ length o) × ((n : ℕ) → n < length g → side o' n < 2) × WinsFrom g 0 (goes o') (λ n. (n < length g) × (side o' n ≡ 0)) × WinsFrom g 1 (goes o') (λ n. (n < length g) × (side o' n ≡ 1)) × (drop (2 * length g) o' ≡ drop (2 * length g) o)
SolvedSays s o o' (Err OutFull) = (g : Game) × Reads s g × (length o < 2 * length g) × (o' ≡ o)
SolvedSays s o o' (Err NoGame) = ((g : Game) → Reads s g → ⊥) × (o' ≡ o)
SolvedSays s o o' (Err Few) = o' ≡ o
SolvedSays s o o' (Err NoPlace) = ⊥

-- whatever plan wins for a side, from wherever, wins only places that the answer gives to that side
abbrev pub Only : List ℕ → List ℕ → Result (Unit {0}) Refusal → Type 0
Only s o' r = r ≡ Ok tt → (g : Game) (w : ℕ) (plan : ℕ → ℕ) (won : ℕ → Bool) (n : ℕ) → Reads s g → w < 2 → WinsFrom g w plan (λ m. T (won m)) → n < length g → T (won n) → side o' n ≡ w

pub record SolvedPost (s : List ℕ) (w : ℕ) (o o' : List ℕ) (r : Result (Unit {0}) Refusal) : Type 0 where
  pub says : SolvedSays s o o' r
  pub parts : Parts
  pub few : (w < 65536 + 4 * length s) ↔ (r ≡ Err Few)
  pub only : Only s o' r
  pub further : Further
