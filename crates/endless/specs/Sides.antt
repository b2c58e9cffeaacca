-- The sides of the code as the numbers 0 and 1 of the definitions.
use Rattle.std.specs.Prelude.{◌≡◌, ℕ, ◌+◌, ◌≤◌, List, ◌∷◌, [], Result, MatchResult, ◌≢◌}
use Rattle.endless.specs.declared.side.Side.{Side}
use Rattle.endless.specs.declared.side.Side.TheVariants.{Even, Odd}
use Rattle.endless.specs.declared.side.NoSide.{NoSide}
use Rattle.endless.specs.declared.side.UnknownSide.{UnknownSide}

abbrev pub number : Side → ℕ
number Even = 0
number Odd = 1

-- the side that a word names, or the word, where it names none
abbrev pub NamesSide : ℕ → Result Side NoSide → Type 0
NamesSide word r = MatchResult r (λ w. word ≡ number w) (λ e. (e.0 ≡ word) × (2 ≤ word))

-- the digit that a side is written as
abbrev pub digit : Side → List ℕ
digit w = (48 + number w) ∷ []

-- the side that a text is, if it is the digit of one
abbrev pub SpellsSide : List ℕ → Result Side UnknownSide → Type 0
SpellsSide text r = MatchResult r (λ w. text ≡ digit w) (λ _. (w : Side) → text ≢ digit w)
