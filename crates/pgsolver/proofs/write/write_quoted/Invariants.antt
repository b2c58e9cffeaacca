use Rattle.std.proofs.Common.{◌≡◌, ℕ, List, ◌++◌, map}
use Rattle.std.specs.Fmt.{HasWritten, IsPlainFormatter}
use Rattle.std.specs.Str.Iter.{chars_rest}
use Rattle.pgsolver.specs.Written.{single}
use Rattle.pgsolver.proofs.write.write_quoted.Given as goal

-- so much is written, and it is what stands before the rest
abbrev pub invariant-loop-c : goal.invariant-loop-c
invariant-loop-c g l = (out : List ℕ) × (out ++ map single (chars_rest l.c-iterator) ≡ map single l.name) × (IsPlainFormatter l.initial.f → HasWritten g.W.Write.write_str_gives l.initial.f out l.f)
