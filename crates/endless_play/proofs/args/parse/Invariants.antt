use Rattle.std.specs.Vec.Iter.{into_iter_len}
use Rattle.endless_play.proofs.args.parse.Given as goal

abbrev pub decreases-loop-arg : goal.decreases-loop-arg
decreases-loop-arg l = into_iter_len l.args
