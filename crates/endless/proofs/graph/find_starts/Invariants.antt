use Rattle.endless.specs.Graph.{positions}
use Rattle.endless.specs.Heads.{heads_in}
use Rattle.endless.proofs.Starts.{Starting}
use Rattle.endless.proofs.graph.find_starts.Given as goal

abbrev pub invariant-loop-i : goal.invariant-loop-i
invariant-loop-i l =
    Starting l.game (heads_in l.i-iterator.iter.left l.i-iterator.iter.words.now) (positions l.starts) l.i-iterator.count l.at
