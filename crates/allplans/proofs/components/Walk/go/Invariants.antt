use Rattle.std.proofs.Common.{◌+◌, ◌*◌, vec_len}
use Rattle.allplans.specs.Walks.{unmet}
use Rattle.allplans.proofs.components.Walk.go.Given as goal

abbrev pub decreases-loop-step : goal.decreases-loop-step
decreases-loop-step l = vec_len l.self.path + 2 * unmet l.self.marks.items
