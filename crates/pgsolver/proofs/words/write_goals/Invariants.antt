use Rattle.std.proofs.Common.{take, vec_items}
use Rattle.pgsolver.specs.Wrongs.{Gone}
use Rattle.pgsolver.proofs.words.write_goals.Given as goal

abbrev pub invariant-loop-goal : goal.invariant-loop-goal
invariant-loop-goal l = Gone l.places (take l.goal-index l.goals) (vec_items l.initial.words) (vec_items l.words)
