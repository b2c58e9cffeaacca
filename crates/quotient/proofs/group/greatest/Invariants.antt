use Rattle.std.proofs.Common.{◌≡◌, drop, max}
use Rattle.quotient.specs.Refining.{part, scattered, greatest}
use Rattle.quotient.proofs.group.greatest.Given as goal

abbrev pub invariant-loop-to : goal.invariant-loop-to
invariant-loop-to l = max (greatest (λ m. scattered l.factor (part l.parts m)) (drop l.to-index l.moves)) l.greatest ≡ greatest (λ m. scattered l.factor (part l.parts m)) l.moves
