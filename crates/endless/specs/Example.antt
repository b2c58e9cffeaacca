-- A worked example: a game of three places, its words, two rounds, and an answer.
use Rattle.std.specs.Prelude.{◌≡◌, ℕ, ◌<◌, List, [], ◌∷◌}
use Rattle.endless.specs.Games.{Game, Reads, May}
use Rattle.endless.specs.Says.{WinsFrom, Round, heaviest, side, goes}

-- 0: side 0's, weight 1, to 1 or 2; 1: side 1's, weight 2, to 0; 2: side 1's, weight 3, to 0 or itself
unfoldable pub three : Game
three = record { whose = 0; weight = 1; moves = 1 ∷ 2 ∷ [] } ∷ record { whose = 1; weight = 2; moves = 0 ∷ [] } ∷ record { whose = 1; weight = 3; moves = 0 ∷ 2 ∷ [] } ∷ []

-- side 0 wins from 0, by going to 1, and from 1; side 1 wins from 2, by staying there
unfoldable pub answer : List ℕ
answer = 0 ∷ 1 ∷ 0 ∷ 0 ∷ 1 ∷ 2 ∷ []

-- an answer that is wrong: it gives place 2 to side 0
unfoldable pub wrong : List ℕ
wrong = 0 ∷ 1 ∷ 0 ∷ 0 ∷ 0 ∷ 2 ∷ []

-- the places that an answer for three places gives to a side
abbrev pub Told : List ℕ → ℕ → ℕ → Type 0
Told o w n = (n < 3) × (side o n ≡ w)

pub record ThreePlaces : Type 0 where
  pub reads : Reads (3 ∷ 0 ∷ 1 ∷ 2 ∷ 1 ∷ 2 ∷ 1 ∷ 2 ∷ 1 ∷ 0 ∷ 1 ∷ 3 ∷ 2 ∷ 0 ∷ 2 ∷ []) three
  pub to_one : May three 0 1
  pub to_two : May three 0 2
  -- by the plan that goes from 0 to 1 the round 0 1 is come to, in which 2 is heaviest; by the other 0 2, in which it is 3
  pub round_one : Round three 0 (λ n. 1) 0 (0 ∷ 1 ∷ []) 0
  pub round_two : Round three 0 (λ n. 2) 0 (0 ∷ 2 ∷ []) 0
  pub heaviest_one : heaviest three (0 ∷ 1 ∷ []) ≡ 2
  pub heaviest_two : heaviest three (0 ∷ 2 ∷ []) ≡ 3
  -- what the answer tells, place by place
  pub sides : (side answer 0 ≡ 0) × (side answer 1 ≡ 0) × (side answer 2 ≡ 1)
  pub moves : (goes answer 0 ≡ 1) × (goes answer 2 ≡ 2)
  -- its plans win; that of the wrong one does not
  pub wins_0 : WinsFrom three 0 (goes answer) (Told answer 0)
  pub wins_1 : WinsFrom three 1 (goes answer) (Told answer 1)
  pub not_wins_0 : WinsFrom three 0 (goes wrong) (Told wrong 0) → ⊥
