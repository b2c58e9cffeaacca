use Rattle.endless.proofs.Tracing.{Visiting}
use Rattle.endless.proofs.search_back.SearchBack.visit_all.Given as goal

abbrev pub invariant-loop-from : goal.invariant-loop-from
invariant-loop-from l = Visiting l.initial.self l.to l.from-items l.from-index l.self
