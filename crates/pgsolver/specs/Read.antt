-- What the code reads of a text.
use Rattle.std.specs.Prelude.{◌≡◌, List, ℕ, Ok, Err, vec_items, Result, Vec}
use Rattle.std.specs.Borrow.{Bor}
use Rattle.std.specs.declared.alloc.Global.{Global}
use Rattle.pgsolver.specs.declared.refusal.Slip.{Slip}
use Rattle.pgsolver.specs.declared.refusal.Stop.{Stop}
use Rattle.pgsolver.specs.declared.refusal.Stop.TheVariants.{At, Memory}

abbrev pub ref_now : Bor (List ℕ) → List ℕ
ref_now x = x.now

-- a value, as v sees it, and what is left behind it, or a slip
abbrev pub ReadBy : {A B : Type 0} → (B → A) → Result (A × List ℕ) Slip → Result (B × Bor (List ℕ)) Slip → Type 0
ReadBy v x (Ok p) = x ≡ Ok (v p.0, p.1.now)
ReadBy v x (Err e) = x ≡ Err e

abbrev pub Read : {A : Type 0} → Result (A × List ℕ) Slip → Result (A × Bor (List ℕ)) Slip → Type 0
Read x r = ReadBy (λ a. a) x r

abbrev pub ReadRest : Result (List ℕ) Slip → Result (Bor (List ℕ)) Slip → Type 0
ReadRest x (Ok p) = x ≡ Ok p.now
ReadRest x (Err e) = x ≡ Err e

-- reading stops where the text says so; want of memory says nothing
abbrev pub Stops : {A : Type 0} → Result A Slip → Stop → Type 0
Stops x (At s) = x ≡ Err s
Stops x Memory = Unit {0}

-- a value, as v sees it, and what is left behind it, or where reading stops
abbrev pub ReadOrStops : {A B : Type 0} → (B → A) → Result (A × List ℕ) Slip → Result (B × Bor (List ℕ)) Stop → Type 0
ReadOrStops v x (Ok p) = x ≡ Ok (v p.0, p.1.now)
ReadOrStops v x (Err e) = Stops x e

-- all values up to the end of the text, or where reading stops
abbrev pub ReadAll : {A : Type 0} → Result (List A) Slip → Result (Vec A Global) Stop → Type 0
ReadAll x (Ok v) = x ≡ Ok (vec_items v)
ReadAll x (Err e) = Stops x e
