use Rattle.std.proofs.Common.{◌≡◌, ℕ, ◌<◌, ◌≤◌, length, get_or}
use Rattle.quotient.specs.Refining.{part}
use Rattle.quotient.specs.Numbering.{rank}
use Rattle.quotient.proofs.number.number.Given as goal

abbrev pub invariant-loop-place : goal.invariant-loop-place
invariant-loop-place l = record {
  many : l.count ≡ rank l.parts l.place;
  numbered : (n : ℕ) → n < l.place → get_or l.numbers n 0 ≡ rank l.parts (part l.parts n);
  behind : (k : ℕ) → length l.places ≤ k → get_or l.numbers k 0 ≡ get_or l.initial.numbers k 0;
  few : l.count ≤ l.place;
}
