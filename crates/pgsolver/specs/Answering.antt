-- The answer that a solution tells, and what is wrong with a text that tells none.
use Rattle.std.specs.Prelude.{◌≡◌, ℕ, ◌<◌, List, [], ◌∷◌, ◌++◌, map, length, take, Some, None, Ok, Err, Option, Result, slice_get, ◌⊎◌}
use Rattle.endless.specs.Sides.{number}
use Rattle.claims.specs.Answered.{Told, ToldOf, Lacks, Differ, Answered}
use Rattle.claims.specs.Tables.{Tabled}
use Rattle.claims.specs.declared.Claim.{Claim}
use Rattle.pgsolver.specs.declared.solution_refusal.SolutionRefusal.{SolutionRefusal}
use Rattle.pgsolver.specs.declared.solution_refusal.SolutionRefusal.TheVariants.{Fault, Unknown, Twice, Missing, TooLong, TooManyNodes, SameId, Memory}
use Rattle.pgsolver.specs.declared.verdict.Verdict.{Verdict}
use Rattle.pgsolver.specs.Verdicts.{solution}
use Rattle.pgsolver.specs.Listed.{line_at}

-- what is said of a node, with the side as a number
abbrev pub told : Verdict → Told ℕ
told v = record { named = v.id; side = number v.winner; goes = v.goal }

abbrev pub told_by : List Verdict → List (Told ℕ)
told_by vs = map told vs

-- the text tells the answer of these words to the game whose nodes have these ids
pub record Tells (text ids words : List ℕ) : Type 0 where
  pub verdicts : List Verdict
  pub said : solution text ≡ Ok verdicts
  pub different : Differ ids
  pub answered : Answered ids (told_by verdicts) words

-- what a refusal says of what is said of a node, and of what is told before
abbrev pub SaysOfOne : List ℕ → List ℕ → List (Told ℕ) → Verdict → SolutionRefusal → Type 0
SaysOfOne text ids ts v (Fault line f) = ⊥
SaysOfOne text ids ts v (Unknown line x) = (line ≡ line_at text v.left) × ((v.id ≡ x) ⊎ (v.goal ≡ Some x)) × Lacks ids x
SaysOfOne text ids ts v (Twice line x) = (line ≡ line_at text v.left) × (v.id ≡ x) × ToldOf ts x
SaysOfOne text ids ts v (Missing x) = ⊥
SaysOfOne text ids ts v TooLong = ⊥
SaysOfOne text ids ts v TooManyNodes = ⊥
SaysOfOne text ids ts v (SameId x) = ⊥
SaysOfOne text ids ts v Memory = Unit {0}

abbrev pub SaysOfSome : List ℕ → List ℕ → List Verdict → SolutionRefusal → Type 0
SaysOfSome text ids vs e = (k : ℕ) × (v : Verdict) × (slice_get vs k ≡ Some v) × SaysOfOne text ids (told_by (take k vs)) v e

-- what a refusal says of the text and the ids
abbrev pub Says : List ℕ → List ℕ → SolutionRefusal → Type 0
Says text ids (Fault line f) = (left : ℕ) × (solution text ≡ Err (record { fault = f; left = left })) × (line ≡ line_at text left)
Says text ids (Unknown line x) = (vs : List Verdict) × (solution text ≡ Ok vs) × SaysOfSome text ids vs (Unknown line x)
Says text ids (Twice line x) = (vs : List Verdict) × (solution text ≡ Ok vs) × SaysOfSome text ids vs (Twice line x)
Says text ids (Missing x) = (vs : List Verdict) × (solution text ≡ Ok vs) × (i : ℕ) × (slice_get ids i ≡ Some x) × (ToldOf (told_by vs) x → ⊥)
Says text ids TooLong = 1048576 < length text
Says text ids TooManyNodes = 16384 < length ids
Says text ids (SameId x) = (i j : ℕ) × (i < j) × (slice_get ids i ≡ Some x) × (slice_get ids j ≡ Some x)
Says text ids Memory = Unit {0}

-- the ids are those of a game, or what is wrong with them
abbrev pub Collected : List ℕ → Result (List ℕ) SolutionRefusal → Type 0
Collected ids (Ok all) = (all ≡ ids) × Differ ids
Collected ids (Err e) = (text : List ℕ) → Says text ids e

-- the place of an id that is named of a node, or that there is none
abbrev pub LookedUp : List ℕ → List ℕ → Verdict → ℕ → Result ℕ SolutionRefusal → Type 0
LookedUp text ids v x (Ok i) = slice_get ids i ≡ Some x
LookedUp text ids v x (Err e) = (ts : List (Told ℕ)) → (v.id ≡ x) ⊎ (v.goal ≡ Some x) → SaysOfOne text ids ts v e

-- the place of a move, if there is a move
abbrev pub Aimed : List ℕ → List ℕ → Verdict → Result (Option ℕ) SolutionRefusal → Type 0
Aimed text ids v (Ok None) = v.goal ≡ None
Aimed text ids v (Ok (Some i)) = (x : ℕ) × (v.goal ≡ Some x) × (slice_get ids i ≡ Some x)
Aimed text ids v (Err e) = (ts : List (Told ℕ)) → SaysOfOne text ids ts v e

-- one more is told
abbrev pub OneTold : List ℕ → List ℕ → List (Told ℕ) → Verdict → List (Option Claim) → Result (Unit {0}) SolutionRefusal → Type 0
OneTold text ids ts v new (Ok u) = Tabled ids (ts ++ (told v ∷ [])) new
OneTold text ids ts v new (Err e) = SaysOfOne text ids ts v e

abbrev pub AllTold : List ℕ → List ℕ → List Verdict → Result (List (Option Claim)) SolutionRefusal → Type 0
AllTold text ids vs (Ok claims) = Tabled ids (told_by vs) claims
AllTold text ids vs (Err e) = solution text ≡ Ok vs → Says text ids e
