use Rattle.std.proofs.Common.{◌∷◌, map, get_or, take}
use Rattle.std.specs.Fmt.{HasWritten, IsPlainFormatter}
use Rattle.pgsolver.specs.Ids.{ids_of}
use Rattle.pgsolver.specs.Written.{successors_text}
use Rattle.std.specs.List.{slice_index}
use Rattle.pgsolver.proofs.write.write_successors.Given as goal

abbrev pub invariant-loop-to : goal.invariant-loop-to
invariant-loop-to g l =
    IsPlainFormatter l.fn.f → HasWritten g.W.Write.write_str_gives l.fn.f (successors_text (map (slice_index (ids_of l.fn.named)) (get_or l.fn.moves 0 0 ∷ take l.to-index l.rest))) l.f
