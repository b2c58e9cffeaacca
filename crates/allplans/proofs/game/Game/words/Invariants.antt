use Rattle.std.proofs.Common.{◌≡◌, ◌∷◌, length, take, vec_items}
use Rattle.std.specs.Prelude.{flat_map}
use Rattle.allplans.specs.Games.{place_words}
use Rattle.allplans.proofs.game.Game.words.Given as goal

abbrev pub invariant-loop-place : goal.invariant-loop-place
invariant-loop-place l = vec_items l.words ≡ length (vec_items l.self.places) ∷ flat_map place_words (take l.place-index (vec_items l.self.places))
