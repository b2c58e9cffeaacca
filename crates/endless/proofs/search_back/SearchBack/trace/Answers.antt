use Rattle.std.proofs.Common.{arith}
use Rattle.endless.proofs.Tracing.{queued_more, tracing_all}
use Rattle.endless.proofs.search_back.SearchBack.trace.Goals as goal

pub loop-head-preserved : goal.loop-head-preserved
loop-head-preserved c = queued_more (omega arith) c.loop-head.invariant c.visit_all.ensures.same c.visit_all.ensures.went c.visit_all.ensures.searched

pub returns-clause-traced : goal.returns-clause-traced
returns-clause-traced c = tracing_all (omega arith) c.loop-head.invariant.works
