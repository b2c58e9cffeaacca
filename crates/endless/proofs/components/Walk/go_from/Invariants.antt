use Rattle.std.proofs.Common.{◌+◌, ◌-◌, ◌^◌}
use Rattle.endless.proofs.components.Walk.go_from.Given as goal

abbrev pub decreases-loop-self : goal.decreases-loop-self
decreases-loop-self g l = l.self.path + 2 ^ 32 - l.self.number
