-- The numbers that C gets for the solver's answers.
use Rattle.std.specs.Prelude.{cond, ℕ, eqb, Ok, Err, Result}
use Rattle.endless.specs.declared.refusal.Refusal.{Refusal}
use Rattle.endless.specs.declared.refusal.Refusal.TheVariants.{Few, NoGame, NoPlace, OutFull}
use Rattle.endless.specs.declared.verdict.Rejection.{Rejection}
use Rattle.endless.specs.declared.verdict.Rejection.TheVariants.{Refused, Wrong}

-- of a refusal
abbrev pub refused : Refusal → ℕ
refused OutFull = 1
refused NoGame = 2
refused Few = 3
refused NoPlace = 4

-- of a call that answers in words, or does nothing
abbrev pub code : {A : Type 0} → Result A Refusal → ℕ
code (Ok a) = 0
code (Err r) = refused r

-- what a number that C lends becomes: what the call tells, else what it was
abbrev pub told : Result ℕ Refusal → ℕ → ℕ
told (Ok n) was = n
told (Err r) was = was

-- of a call that looks at an answer
abbrev pub check_code : Result (Unit {0}) Rejection → ℕ
check_code (Ok u) = 0
check_code (Err (Wrong r)) = 1
check_code (Err (Refused r)) = refused r

-- the side that a number of C's means
abbrev pub word_side : ℕ → ℕ
word_side w = cond (eqb w 1) 1 0
