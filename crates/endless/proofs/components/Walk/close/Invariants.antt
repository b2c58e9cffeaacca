use Rattle.std.proofs.Common.{◌≡◌}
use Rattle.endless.proofs.components.Walk.close.Given as goal

abbrev pub invariant-loop-self : goal.invariant-loop-self
invariant-loop-self g l = (l.self.number ≡ l.initial.self.number) × (l.self.path ≡ l.initial.self.path)

abbrev pub decreases-loop-self : goal.decreases-loop-self
decreases-loop-self g l = l.self.behind
