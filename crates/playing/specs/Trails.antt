-- What a play has come through, and what is left of it when a choice is taken back.
use Rattle.std.specs.Prelude.{◌≡◌, ℕ, ◌+◌, ◌-◌, ◌^◌, ◌<◌, ◌≤◌, min, List, [], ◌∷◌, ◌++◌, length, take, Some, None, Option, MatchOption}
use Rattle.std.specs.Option.{option_to_list}
use Rattle.playing.specs.Windows.{Holds, latest}
use Rattle.playing.specs.declared.trail.Choice.{Choice}

-- the weights that are kept, the choices that can be taken back, and how many moves were made
pub record Past : Type 0 where
  pub weights : List ℕ
  pub choices : List Choice
  pub made : ℕ

-- no more is kept than may be, and the window is over the last 1,000 of the weights
pub record Limited (weights window : List ℕ) (choices : List Choice) : Type 0 where
  pub few : length weights ≤ 65536
  pub holds : Holds window weights
  pub few_choices : length choices ≤ 1000

-- the play stands at its first place, of weight w
pub record Started (w : ℕ) (p : Past) : Type 0 where
  pub weights : p.weights ≡ w ∷ []
  pub choices : p.choices ≡ []
  pub none_made : p.made ≡ 0

-- a move to a place of weight w: one more is made, and the last 65,536 weights are kept
pub record Came (w : ℕ) (p p' : Past) : Type 0 where
  pub weights : p'.weights ≡ latest 65535 p.weights ++ w ∷ []
  pub choices : p'.choices ≡ p.choices
  pub one_more : p'.made ≡ min (p.made + 1) (2 ^ 64 - 1)

-- a choice at a place is kept, with the number of moves made before it, and the last 999 before it
pub record Chosen (n : ℕ) (p p' : Past) : Type 0 where
  pub weights : p'.weights ≡ p.weights
  pub choices : p'.choices ≡ latest 999 p.choices ++ record { place = n; made = p.made } ∷ []
  pub as_many : p'.made ≡ p.made

-- so many weights are left of those kept, when of the moves made now only those made then are left
abbrev pub left_of : ℕ → ℕ → ℕ → ℕ
left_of kept now then = kept - (now - then)

-- what is left tells what the last 1,000 weights were then: there are 1,000, or all of them
pub record Known (kept now then : ℕ) : Type 0 where
  pub before : then ≤ now
  pub held : now - then ≤ kept
  pub enough : left_of kept now then < 1000 → then < left_of kept now then

-- how many weights are left, where they tell enough
abbrev pub LeftAt : ℕ → ℕ → ℕ → Option ℕ → Type 0
LeftAt kept now then (Some n) = Known kept now then × (n ≡ left_of kept now then)
LeftAt kept now then None = Known kept now then → ⊥

-- the weights that are kept tell enough to take the choice back
abbrev pub TellsBack : Past → Choice → Type 0
TellsBack p c = Known (length p.weights) p.made c.made

-- the choice c is taken back: as many moves are made as when it was made, and the weights that were there then are left
pub record TakenBack (p p' : Past) (c : Choice) : Type 0 where
  pub last : p.choices ≡ p'.choices ++ c ∷ []
  pub tells : TellsBack p c
  pub weights : p'.weights ≡ take (left_of (length p.weights) p.made c.made) p.weights
  pub as_many : p'.made ≡ c.made

-- no choice is taken back: no move and no weight goes; there is no choice, or the last is forgotten since the weights do not tell enough
pub record NotBack (p p' : Past) (c : Option Choice) : Type 0 where
  pub weights : p'.weights ≡ p.weights
  pub as_many : p'.made ≡ p.made
  pub last : p.choices ≡ p'.choices ++ option_to_list c
  pub tells : MatchOption c (p.choices ≡ []) (λ d. TellsBack p d → ⊥)

-- what `back` answers: the place of the last choice, or that it is not taken back
abbrev pub Back : Past → Past → Option ℕ → Type 0
Back p p' (Some n) = (c : Choice) × TakenBack p p' c × (n ≡ c.place)
Back p p' None = (c : Option Choice) × NotBack p p' c
