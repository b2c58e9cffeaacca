use Rattle.std.proofs.Common.{◌≡◌, false, ◌++◌, string_bytes}
use Rattle.std.specs.Str.Iter.{chars_rest}
use Rattle.drawing.specs.Form.{plain}
use Rattle.drawing.proofs.spell.unescaped.Given as goal

abbrev pub invariant-loop-c : goal.invariant-loop-c
invariant-loop-c l = string_bytes l.name ++ plain l.escaped (chars_rest l.c-iterator) ≡ plain false l.raw
