-- What comes next in a play.
use Rattle.std.specs.Prelude.{◌≡◌, ◌<◌, ◌≤◌, length, Some, None, Option}
use Rattle.endless.specs.Graph.{moves}
use Rattle.endless_play.specs.Settings.{HasChoice, Ends, Standing, Noted, Goes, Returns}
use Rattle.endless_play.specs.declared.play.Turn.{Turn}
use Rattle.endless_play.specs.declared.play.Turn.TheVariants.{Move, Back}

-- a move is one of those of the place
abbrev pub Within : Standing → Turn → Type 0
Within p (Move i) = i < length (moves p.table.game p.place)
Within p Back = Unit {0}

-- a play ends where it stands if it may end there; else, where the person has no choice, it goes on by the plan's move or the first of the list, as often as it may, and then ends
pub record Unasked (p : Standing) (next : Option Turn) : Type 0 where
  pub over : Ends p.table p.place → next ≡ None
  pub goes_on : (Ends p.table p.place → ⊥) → (HasChoice p.table p.place → ⊥) → p.alone < p.table.most_alone → next ≡ Some (Move 0)
  pub ends : (HasChoice p.table p.place → ⊥) → p.table.most_alone ≤ p.alone → next ≡ None

-- what a turn makes of a play
abbrev pub Makes : Standing → Standing → Turn → Type 0
Makes old new (Move i) = (noted : Standing) × (Noted old noted × Goes noted new i)
Makes old new Back = Returns old new
