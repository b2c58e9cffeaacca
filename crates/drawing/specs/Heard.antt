-- What the code reads of a line of an answer.
use Rattle.std.specs.Prelude.{◌≡◌, ℕ, Bool, List, Some, None, Ok, Err, Option, Result}
use Rattle.std.specs.Borrow.{Bor}
use Rattle.std.specs.Option.{option_map}
use Rattle.endless.specs.Sides.{number}
use Rattle.claims.specs.Answered as claims
use Rattle.drawing.specs.declared.refusal.Fault.{Fault}
use Rattle.drawing.specs.declared.token.Spelt.{Spelt}
use Rattle.drawing.specs.declared.told.Told.{Told}
use Rattle.drawing.specs.Lexed.{is_quoted, meant}
use Rattle.drawing.specs.Telling.{Said, nothing, tells, bad}

abbrev pub text_now : Bor (List ℕ) → List ℕ
text_now x = x.now

abbrev pub spelt : Spelt → Bool × List ℕ
spelt w = (is_quoted w, meant w)

-- a value, as v sees it, and what is left behind it, or a fault
abbrev pub ReadBy : {A B : Type 0} → (B → A) → Result (A × List ℕ) Fault → Result (B × Bor (List ℕ)) Fault → Type 0
ReadBy v x (Ok p) = x ≡ Ok (v p.0, p.1.now)
ReadBy v x (Err f) = x ≡ Err f

abbrev pub Ended : Result (Unit {0}) Fault → Result (Unit {0}) Fault → Type 0
Ended x (Ok u) = x ≡ Ok tt
Ended x (Err f) = x ≡ Err f

-- what the code reads, as the definitions have it
abbrev pub told_by : Told → claims.Told (List ℕ)
told_by t = record { named = meant t.name; side = number t.side; goes = option_map meant t.goal }

abbrev pub Heard : Said → Result (Option Told) Fault → Type 0
Heard s (Ok None) = s ≡ nothing
Heard s (Ok (Some t)) = s ≡ tells (told_by t)
Heard s (Err f) = s ≡ bad f
