-- What a line of an answer tells: NAME SIDE MOVE.
use Rattle.std.specs.Prelude.{ℕ, Bool, cond, List, [], ◌∷◌, drop, Some, None, Ok, Err, Option, Result, ◌==◌}
use Rattle.std.specs.List.{flat_map, prefix_len}
use Rattle.claims.specs.Answered.{Told}
use Rattle.drawing.specs.declared.refusal.Fault.{Fault}
use Rattle.drawing.specs.declared.refusal.Fault.TheVariants.{Form, Side}
use Rattle.drawing.specs.Form.{blank, apart, Next, no_more, next, colon, word, wrong, next_piece, side_of}
use Rattle.drawing.specs.Reading.{bared}

abbrev pub and_then : {A B : Type 0} → Result A Fault → (A → Result B Fault) → Result B Fault
and_then (Ok x) f = f x
and_then (Err e) f = Err e

-- the next word, whether it is quoted and the name that it means, and what is left behind it
abbrev pub word_next : Next → Result ((Bool × List ℕ) × List ℕ) Fault
word_next no_more = Err Form
word_next (next colon rest) = Err Form
word_next (next (wrong f) rest) = Err f
word_next (next (word quoted w) rest) = Ok ((quoted, w), rest)

abbrev pub side_or : List ℕ → Option ℕ → Result (ℕ × List ℕ) Fault
side_or rest None = Err Side
side_or rest (Some s) = Ok (s, rest)

abbrev pub side_next : List ℕ → Result (ℕ × List ℕ) Fault
side_next bs = and_then (word_next (next_piece bs)) (λ p. side_or p.1 (side_of p.0.0 p.0.1))

-- what is left behind a bare `-` that comes next
abbrev pub behind_first : List ℕ → Option (List ℕ)
behind_first [] = None
behind_first (b ∷ bs) = cond (b == 45) (cond (apart bs) (Some bs) None) None

abbrev pub behind_dash : List ℕ → Option (List ℕ)
behind_dash bs = behind_first (drop (prefix_len blank bs) bs)

-- the name of a move, or a bare `-` for none
abbrev pub goal_or : List ℕ → Option (List ℕ) → Result (Option (List ℕ) × List ℕ) Fault
goal_or bs (Some rest) = Ok (None, rest)
goal_or bs None = and_then (word_next (next_piece bs)) (λ p. Ok (Some p.0.1, p.1))

abbrev pub goal_next : List ℕ → Result (Option (List ℕ) × List ℕ) Fault
goal_next bs = goal_or bs (behind_dash bs)

-- nothing is left of the line
abbrev pub end_next : Next → Result (Unit {0}) Fault
end_next no_more = Ok tt
end_next (next colon rest) = Err Form
end_next (next (wrong f) rest) = Err f
end_next (next (word quoted w) rest) = Err Form

-- SIDE MOVE, of the place of this name
abbrev pub told_of : List ℕ → List ℕ → Result (Told (List ℕ)) Fault
told_of x bs =
    and_then (side_next bs) (λ s. and_then (goal_next s.1) (λ g. and_then (end_next (next_piece g.1)) (λ _. Ok (record { named = x; side = s.0; goes = g.0 }))))

-- what a line says
pub data Said : Type 0 where
  nothing : Said
  tells : Told (List ℕ) → Said
  bad : Fault → Said

abbrev pub told_or_bad : Result (Told (List ℕ)) Fault → Said
told_or_bad (Ok t) = tells t
told_or_bad (Err f) = bad f

-- NAME SIDE MOVE
abbrev pub telling_on : Next → Said
telling_on no_more = nothing
telling_on (next colon rest) = bad Form
telling_on (next (wrong f) rest) = bad f
telling_on (next (word quoted w) rest) = told_or_bad (told_of w rest)

abbrev pub telling : List ℕ → Said
telling bs = telling_on (next_piece bs)

abbrev pub said : List ℕ → Said
said l = telling (bared l)

-- what lines tell, in their order
abbrev pub told_in : Said → List (Told (List ℕ))
told_in nothing = []
told_in (bad f) = []
told_in (tells t) = t ∷ []

abbrev pub told_on : List (List ℕ) → List (Told (List ℕ))
told_on ls = flat_map (λ l. told_in (said l)) ls
