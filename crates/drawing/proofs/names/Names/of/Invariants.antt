use Rattle.std.proofs.Common.{map, string_bytes}
use Rattle.drawing.proofs.Collecting.{CollectedTo}
use Rattle.drawing.proofs.names.Names.of.Given as goal

abbrev pub invariant-loop-name : goal.invariant-loop-name
invariant-loop-name l = CollectedTo (map string_bytes l.names) (map string_bytes l.all.keys) l.name-index
