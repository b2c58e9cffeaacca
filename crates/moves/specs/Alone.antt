-- A game in which a place has one move alone: each of its moves is made that one, so that its words stay as many.
use Rattle.std.specs.Prelude.{ℕ, zero, suc, [], ◌∷◌, length, replicate}
use Rattle.endless.specs.Games.{Place, Game}

abbrev pub kept : Place → ℕ → Place
kept p m = record { whose = p.whose; weight = p.weight; moves = replicate (length p.moves) m }

-- the game in which n may move to m alone
abbrev pub alone : Game → ℕ → ℕ → Game
alone [] n m = []
alone (p ∷ ps) zero m = kept p m ∷ ps
alone (p ∷ ps) (suc n) m = p ∷ alone ps n m
