use Rattle.std.proofs.Common.{arith}
use Rattle.std.proofs.lemmas.Iterator.{YieldsList-from_slice, YieldsList-from_zip}
use Rattle.std.proofs.lemmas.Iterator.Consumers.{YieldsList-from_enumerate, YieldsList-turn}
use Rattle.std.proofs.lemmas.List.{length_push}
use Rattle.allplans.proofs.Checks.{held_more}
use Rattle.allplans.proofs.checker.look_at_all.Goals as goal

pub loop-place-preserved : goal.loop-place-preserved
loop-place-preserved c v d below =
    let ps = c.args.claimed.places.now in
    let claims = c.args.claimed.claims.now in
    let done = c.loop-place.yielded in
    let t = YieldsList-turn (YieldsList-from_enumerate (YieldsList-from_zip (YieldsList-from_slice ps (cc)) (YieldsList-from_slice claims (cc))) (cc)) done c.loop-place.place-iterator c.loop-place.yielded_by c.next.result c.next.new.self (c.in-Some.place, (c.in-Some.here, c.in-Some.claim)) c.in-Some.is c.next.ensures.steps in
    held_more ps claims _ c.in-Some.place c.in-Some.here.now c.in-Some.claim.now t.0 t.1 c.in_ok-look_at.ensures c.loop-place.invariant v d (omega (arith, below, length_push done (c.in-Some.place, (c.in-Some.here, c.in-Some.claim))))
