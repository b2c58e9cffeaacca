use Rattle.allplans.specs.Sets.{known}
use Rattle.allplans.proofs.checker.way_back.Given as goal

abbrev pub decreases-loop-place : goal.decreases-loop-place
decreases-loop-place l = known l.before
