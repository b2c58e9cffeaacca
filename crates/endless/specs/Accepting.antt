-- Words that can be worked on.
use Rattle.std.specs.Prelude.{◌≡◌, ℕ, ◌+◌, ◌*◌, ◌<◌, ◌≤◌, List, length, Ok, Err, Result}
use Rattle.endless.specs.Games.{Game, Reads}
use Rattle.endless.specs.declared.accepted.Accepted.{Accepted}
use Rattle.endless.specs.declared.refusal.Refusal.{Refusal}
use Rattle.endless.specs.declared.refusal.Refusal.TheVariants.{Few, NoGame, NoPlace, OutFull}

-- the game that words are, and all the words that are lent, where it can be worked on: enough are lent, and they are a game
abbrev pub Accepts : List ℕ → ℕ → Result Accepted Refusal → Type 0
Accepts s lent (Ok a) = (65536 + 4 * length s ≤ lent) × Reads s a.game × (length a.work.now ≡ lent)
Accepts s lent (Err Few) = lent < 65536 + 4 * length s
Accepts s lent (Err NoGame) = (65536 + 4 * length s ≤ lent) × ((g : Game) → Reads s g → ⊥)
Accepts s lent (Err NoPlace) = ⊥
Accepts s lent (Err OutFull) = ⊥
