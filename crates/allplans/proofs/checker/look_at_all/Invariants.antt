use Rattle.std.proofs.Common.{ℕ, ◌<◌, length, get_or}
use Rattle.allplans.specs.declared.game.Place.{Place}
use Rattle.allplans.specs.Checked.{Holds}
use Rattle.allplans.specs.Claims.{plan, winners}
use Rattle.allplans.proofs.checker.look_at_all.Given as goal

abbrev pub invariant-loop-place : goal.invariant-loop-place
invariant-loop-place l = (v : ℕ) (d : Place) → v < length l.yielded → Holds (get_or l.claimed.places.now v d) (get_or (plan l.claimed.claims.now) v 0) (winners l.claimed.claims.now) (get_or (winners l.claimed.claims.now) v 0)
