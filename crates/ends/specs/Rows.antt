-- The places of a game with ends, one after another.
use Rattle.std.specs.Prelude.{◌≡◌, List, [], ◌∷◌, Option, MatchOption}
use Rattle.endless.specs.Games.{Place, row}
use Rattle.ends.specs.declared.rows.Row.{Row}
use Rattle.ends.specs.declared.rows.Rows.{Rows}

abbrev pub place_of : Row → Place
place_of r = record { whose = r.whose; weight = r.weight; moves = r.moves.now }

-- where the words are those of some places, the first of these comes, and the others are left
abbrev pub FirstRow : Rows → Option Row → Rows → Type 0
FirstRow s r t = (ps : List Place) → s.words.now ≡ row ps → MatchOption r (ps ≡ []) (λ p. (others : List Place) × (ps ≡ place_of p ∷ others) × (t.words.now ≡ row others))
