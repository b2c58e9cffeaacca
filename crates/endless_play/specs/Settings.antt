-- What a play is played on, where it stands, and how it goes on.
use Rattle.std.specs.Prelude.{◌≡◌, ◌≢◌, ℕ, ◌+◌, ◌-◌, ◌^◌, ◌<◌, min, Bool, true, List, length, slice_get, Some, Option, MatchOption}
use Rattle.endless.specs.Games.{Game, whose, weight}
use Rattle.endless.specs.Graph.{moves}
use Rattle.endless.specs.Sides.{number}
use Rattle.endless.specs.declared.side.Side.{Side}
use Rattle.playing.specs.Boards.{Stepped}
use Rattle.playing.specs.Trails.{Past, Started, Came, Chosen, Back}

-- a game, an answer to it, at which of its places a play ends, the program's side, and how many moves a play goes on where the person has no choice
pub record Setting : Type 0 where
  pub game : Game
  pub answer : List ℕ
  pub ends : List Bool
  pub side : Side
  pub most_alone : ℕ

-- the person chooses at a place: it is the other side's move, and there is more than one
abbrev pub HasChoice : Setting → ℕ → Type 0
HasChoice t n = (whose t.game n ≢ number t.side) × (1 < length (moves t.game n))

-- a play ends at a place
abbrev pub Ends : Setting → ℕ → Type 0
Ends t n = slice_get t.ends n ≡ Some true

-- the place where a play stands, what it has come through, and how many moves came since the person's last choice
pub record Standing : Type 0 where
  pub table : Setting
  pub place : ℕ
  pub past : Past
  pub alone : ℕ

-- a play begins at a place
pub record Begins (t : Setting) (n : ℕ) (new : Standing) : Type 0 where
  pub same_table : new.table ≡ t
  pub here : new.place ≡ n
  pub started : Started (weight t.game n) new.past
  pub none_alone : new.alone ≡ 0

-- before a move: where the person chooses, the place is kept, so that the choice can be taken back, and the moves without a choice are counted anew; elsewhere one more of these comes
pub record Noted (old new : Standing) : Type 0 where
  pub same_table : new.table ≡ old.table
  pub same_place : new.place ≡ old.place
  pub chosen : HasChoice old.table old.place → Chosen old.place old.past new.past
  pub anew : HasChoice old.table old.place → new.alone ≡ 0
  pub no_choice : (HasChoice old.table old.place → ⊥) → new.past ≡ old.past
  pub one_more : (HasChoice old.table old.place → ⊥) → new.alone ≡ min (old.alone + 1) (2 ^ 64 - 1)

-- a play goes on by one step, with this choice where the plan does not say where to go
pub record Goes (old new : Standing) (choice : ℕ) : Type 0 where
  pub stepped : Stepped old.table.game old.table.answer (number old.table.side) old.place choice new.place
  pub same_table : new.table ≡ old.table
  pub came : Came (weight old.table.game new.place) old.past new.past
  pub as_alone : new.alone ≡ old.alone

-- the last choice is taken back, and the play stands where it was made; it stands where it stood where none is taken back
pub record Returns (old new : Standing) : Type 0 where
  pub same_table : new.table ≡ old.table
  pub place : Option ℕ
  pub back : Back old.past new.past place
  pub stands : MatchOption place (new.place ≡ old.place) (λ n. new.place ≡ n)
  pub anew : new.alone ≡ 0
