-- What a person's line may ask for.
use Rattle.std.specs.Prelude.{ℕ, ◌<◌}
use Rattle.endless_play.specs.declared.wish.Wish.{Wish}
use Rattle.endless_play.specs.declared.wish.Wish.TheVariants.{Move, Help, Status, Back, Quit}

-- a move is one of a list of so many
abbrev pub InList : ℕ → Wish → Type 0
InList many (Move i) = i < many
InList many Help = Unit {0}
InList many Status = Unit {0}
InList many Back = Unit {0}
InList many Quit = Unit {0}
