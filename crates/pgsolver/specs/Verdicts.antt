-- A solution in PGSolver's form: what stands in front of a text, node by node.
use Rattle.std.specs.Prelude.{ℕ, zero, suc, cond, List, [], ◌∷◌, ◌++◌, length, Some, None, Ok, Option, Result}
use Rattle.std.specs.Char.{is_ascii_digit}
use Rattle.pgsolver.specs.declared.refusal.Fault.TheVariants.{Number}
use Rattle.pgsolver.specs.declared.refusal.Slip.{Slip}
use Rattle.pgsolver.specs.declared.verdict.Verdict.{Verdict}
use Rattle.pgsolver.specs.Form.{skip, and_then, digits, number, owner, tail, header}

-- the id of a move, if a number comes next
abbrev pub goal_in : List ℕ → Result (Option ℕ × List ℕ) Slip
goal_in [] = Ok (None, [])
goal_in (b ∷ bs) = cond (is_ascii_digit b) (and_then (digits 0 (b ∷ bs)) (λ p. Ok (Some p.0, p.1))) (Ok (None, b ∷ bs))

abbrev pub goal : List ℕ → Result (Option ℕ × List ℕ) Slip
goal bs = goal_in (skip bs)

-- ID WINNER MOVE "NAME"; where the winner is 0 or 1, and the move and the name may be missing; the name says nothing
abbrev pub verdict : List ℕ → Result (Verdict × List ℕ) Slip
verdict bs =
    and_then (number Number bs) (λ i. and_then (owner i.1) (λ w. and_then (goal w.1) (λ g. and_then (tail g.1) (λ t. Ok (record { id = i.0; winner = w.0; goal = g.0; left = length bs }, t.1)))))

-- what is said of nodes up to the end of the text; acc is what was said so far, and n more are looked at
abbrev pub verdicts_on : (List ℕ → Result (List Verdict) Slip) → List Verdict → List ℕ → Result (List Verdict) Slip
verdicts_on more acc [] = Ok acc
verdicts_on more acc (b ∷ bs) = more (b ∷ bs)

unfoldable pub verdicts_in : ℕ → List Verdict → List ℕ → Result (List Verdict) Slip
verdicts_in zero acc bs = Ok acc
verdicts_in (suc n) acc bs = verdicts_on (λ here. and_then (verdict here) (λ p. verdicts_in n (acc ++ (p.0 ∷ [])) p.1)) acc (skip bs)

unfoldable pub verdicts : List ℕ → Result (List Verdict) Slip
verdicts bs = verdicts_in (suc (length bs)) [] bs

-- paritysol
abbrev pub paritysol_word : List ℕ
paritysol_word = 112 ∷ 97 ∷ 114 ∷ 105 ∷ 116 ∷ 121 ∷ 115 ∷ 111 ∷ 108 ∷ []

-- paritysol N; which may be missing, and what is said of the nodes
abbrev pub solution : List ℕ → Result (List Verdict) Slip
solution text = and_then (header paritysol_word text) verdicts
