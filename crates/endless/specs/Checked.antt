-- What it is to be an answer, and what `check` promises.
use Rattle.std.specs.Prelude.{◌≡◌, ℕ, ◌+◌, ◌*◌, ◌<◌, ◌≤◌, ◌↔◌, List, length, nat_lt, Ok, Err, MatchResult, Result}
use Rattle.endless.specs.Games.{Game, Reads}
use Rattle.endless.specs.Says.{WinsFrom, side, goes}
use Rattle.endless.specs.Sets.{whole, having}
use Rattle.endless.specs.Subgames.{Holds}
use Rattle.endless.specs.Sides.{number}
use Rattle.endless.specs.Bits.{members, size}
use Rattle.endless.specs.Layout.{width}
use Rattle.endless.specs.Flaws.{FlawIs}
use Rattle.endless.specs.declared.side.Side.{Side}
use Rattle.endless.specs.declared.verdict.Reason.{Reason}
use Rattle.endless.specs.declared.verdict.Reason.TheVariants.{Short, NoSide, Plan}
use Rattle.endless.specs.declared.refusal.Refusal.TheVariants.{Few, NoGame, NoPlace, OutFull}
use Rattle.endless.specs.declared.verdict.Rejection.{Rejection}
use Rattle.endless.specs.declared.verdict.Rejection.TheVariants.{Refused, Wrong}

-- words are an answer to a game: two for each place, a side that wins it, and plans that win for each side from the places given to it
pub record IsAnswer (g : Game) (o : List ℕ) : Type 0 where
  pub long : 2 * length g ≤ length o
  pub one_of_two : (n : ℕ) → n < length g → side o n < 2
  pub wins_0 : WinsFrom g 0 (goes o) (λ n. (n < length g) × (side o n ≡ 0))
  pub wins_1 : WinsFrom g 1 (goes o) (λ n. (n < length g) × (side o n ≡ 1))

-- what each reason says: the answer is too short; a place is given to neither side; a side's plan has a flaw on the places given to it
abbrev pub ReasonIs : Game → List ℕ → Reason → Type 0
ReasonIs g o Short = length o < 2 * length g
ReasonIs g o (NoSide n) = (n.0 < length g) × (2 ≤ side o n.0)
ReasonIs g o (Plan w f) = FlawIs g (whole g) (having (whole g) (side o) (number w)) (number w) (goes o) f

-- a side's plan wins from the places given to it, or why not
abbrev pub SideChecked : Game → List ℕ → Side → Result (Unit {0}) Reason → Type 0
SideChecked g o w r = MatchResult r (λ _. Holds g (whole g) (having (whole g) (side o) (number w)) (number w) (goes o)) (λ reason. ReasonIs g o reason)

-- `check`: what each answer says
abbrev pub CheckedSays : List ℕ → List ℕ → Result (Unit {0}) Rejection → Type 0
CheckedSays s o (Ok u) = (g : Game) × Reads s g × IsAnswer g o
CheckedSays s o (Err (Wrong r)) = (g : Game) × Reads s g × ReasonIs g o r × (IsAnswer g o → ⊥)
CheckedSays s o (Err (Refused NoGame)) = (g : Game) → Reads s g → ⊥
CheckedSays s o (Err (Refused Few)) = Unit {0}
CheckedSays s o (Err (Refused NoPlace)) = ⊥
CheckedSays s o (Err (Refused OutFull)) = ⊥

-- and when it is said: with enough lent, right exactly of what is an answer, and no game exactly of what is none
pub record CheckedPost (s : List ℕ) (lent : ℕ) (o : List ℕ) (r : Result (Unit {0}) Rejection) : Type 0 where
  pub says : CheckedSays s o r
  pub few : (lent < 65536 + 4 * length s) ↔ (r ≡ Err (Refused Few))
  pub right : 65536 + 4 * length s ≤ lent → (g : Game) → Reads s g → ((r ≡ Ok tt) ↔ IsAnswer g o)
  pub no_game : 65536 + 4 * length s ≤ lent → ((r ≡ Err (Refused NoGame)) ↔ ((g : Game) → Reads s g → ⊥))

-- the set of all places, and room for two more sets, the queue and the ranks
pub record Tabled (g : Game) (all set left queue ranks : List ℕ) : Type 0 where
  pub are : (j : ℕ) → members all j ≡ nat_lt j (length g)
  pub many : size all ≡ length g
  pub wide : length all ≡ width (length g)
  pub sets : length set ≡ width (length g)
  pub lefts : length left ≡ width (length g)
  pub queues : length g + 1 ≤ length queue
  pub ranked : length g ≤ length ranks
