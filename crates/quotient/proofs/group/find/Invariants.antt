use Rattle.std.proofs.Common.{ℕ, ◌≤◌, length, get_or}
use Rattle.quotient.specs.Refining.{Linked, Same}
use Rattle.quotient.specs.Gathering.{Nothing}
use Rattle.quotient.proofs.group.find.Given as goal

abbrev pub invariant-loop-link : goal.invariant-loop-link
invariant-loop-link l = record {
  low : l.link ≤ length l.list;
  empty : Nothing l.set;
  within : (n : ℕ) → Linked l.links l.link n → Linked l.links l.start n;
  left : (n : ℕ) → Linked l.links l.start n → Same l.places l.parts l.place (get_or l.list n 0) → Linked l.links l.link n;
}

abbrev pub decreases-loop-link : goal.decreases-loop-link
decreases-loop-link l = l.link
