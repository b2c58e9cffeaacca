-- The words by which sides are named.
use Rattle.std.specs.Prelude.{◌≡◌, ℕ, ◌<◌, Result, MatchResult}
use Rattle.allplans.specs.declared.side.Side.{Side}
use Rattle.allplans.specs.declared.side.Side.TheVariants.{Even, Odd}
use Rattle.allplans.specs.declared.side.NoSide.{NoSide}

abbrev pub side_word : Side → ℕ
side_word Even = 0
side_word Odd = 1

-- the side that a word names, or the word, where it names none
abbrev pub NamesSide : ℕ → Result Side NoSide → Type 0
NamesSide word r = MatchResult r (λ side. side_word side ≡ word) (λ e. (e.0 ≡ word) × (1 < word))
