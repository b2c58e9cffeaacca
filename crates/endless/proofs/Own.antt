-- The set of a side's places, as a test.
use Rattle.std.proofs.Common.{◌≡◌, ℕ, ◌<◌, eqb, List, length, eqb→eq}
use Rattle.endless.specs.Games.{Game, whose}
use Rattle.endless.specs.Bits.{members}
use Rattle.endless.specs.Graph.{Own}
use Rattle.endless.proofs.Tests.{from_eq, either_both}

pub own_is : {g : Game} {w : ℕ} {own : List ℕ} → Own g w own → (n : ℕ) → n < length g → members own n ≡ eqb (whose g n) w
own_is {g} {w} {own} o n h = either_both (members own n) (eqb (whose g n) w) (λ x. from_eq (whose g n) w ((o.are n).0 x).1) (λ t. (o.are n).1 (h, eqb→eq (whose g n) w t))
