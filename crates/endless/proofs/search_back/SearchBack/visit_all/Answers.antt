use Rattle.std.proofs.Common.{arith}
use Rattle.endless.proofs.Places.{from_place}
use Rattle.endless.proofs.Looking.{may_at}
use Rattle.endless.proofs.Tracing.{visiting_more, visiting_all}
use Rattle.endless.proofs.search_back.SearchBack.visit_all.Goals as goal

pub visit-requires : goal.visit-requires
visit-requires c =
    let g = c.args.self.now.claim.graph.now in
    record { from = rw c.loop-from.invariant.same.claim (from_place g _ c.args.to (may_at g c.args.to c.preds-from-items.result.now c.preds-from-items.ensures.preds.are c.loop-from.from-index (omega arith))) }

pub loop-from-preserved : goal.loop-from-preserved
loop-from-preserved c = visiting_more c.preds-from-items.ensures.preds.are (omega arith) c.loop-from.invariant c.visit.ensures.same c.visit.ensures.visited

pub returns-clause-searched : goal.returns-clause-searched
returns-clause-searched c = visiting_all (omega arith) c.loop-from.invariant
