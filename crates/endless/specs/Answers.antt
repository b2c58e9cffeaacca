-- An answer in words, read one place at a time.
use Rattle.std.specs.Prelude.{◌≡◌, ℕ, ◌+◌, ◌*◌, ◌≤◌, List, length, Some, None, Option}
use Rattle.std.proofs.Math.Option.{some}
use Rattle.endless.specs.Games.{nth}
use Rattle.endless.specs.Says.{side}
use Rattle.endless.specs.Sides.{number}
use Rattle.endless.specs.declared.answer.PlaceId.{PlaceId}
use Rattle.endless.specs.declared.answer.Winner.{Winner}

-- the side that wins place n, or that neither does
abbrev pub WinnerIs : List ℕ → ℕ → Option Winner → Type 0
WinnerIs o n (Some w) = side o n ≡ number w.0
WinnerIs o n None = 2 ≤ side o n

-- where the plan goes from place n, or that the answer ends before
abbrev pub PlanIs : List ℕ → ℕ → Option PlaceId → Type 0
PlanIs o n (Some m) = nth o (2 * n + 1) ≡ some m.0
PlanIs o n None = length o ≤ 2 * n + 1
