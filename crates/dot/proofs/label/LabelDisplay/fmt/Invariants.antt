use Rattle.std.proofs.Common.{◌≡◌, ℕ, List, ◌++◌}
use Rattle.std.specs.Fmt.{HasWritten, IsPlainFormatter}
use Rattle.std.specs.Str.Iter.{chars_rest}
use Rattle.dot.specs.Labels.{escaped}
use Rattle.dot.proofs.label.LabelDisplay.fmt.Given as goal

-- so much is written, and it is what stands before the rest
abbrev pub invariant-loop-c : goal.invariant-loop-c
invariant-loop-c g l = (out : List ℕ) × (out ++ escaped (chars_rest l.c-iterator) ≡ escaped l.self.0.now) × (IsPlainFormatter l.initial.f → HasWritten g.W.Write.write_str_gives l.initial.f out l.f)
