use Rattle.std.proofs.Common.{ap}
use Rattle.std.proofs.Output.{has_written_of_eq}
use Rattle.dot.specs.Pictures.{head}
use Rattle.dot.proofs.picture.Picture.write_head.Goals as goal

pub returns : goal.returns
unfolding head
returns g c = λ p ok. has_written_of_eq _ _ _ _ _ (ap head c.told-told.ensures) (c.write.ensures.writes p ok)
