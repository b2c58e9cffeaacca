use Rattle.std.proofs.Common.{◌*◌, arith}
use Rattle.std.proofs.lemmas.List.{length-set}
use Rattle.distance.proofs.Looking.{from_here, look_awaits, look_room, look_stays, look_waits, look_comes}
use Rattle.distance.proofs.spread.Spreading.pull.Goals as goal

pub bounds-self-at : goal.bounds-self-at
bounds-self-at c = let p = c.requires in let s = c.args.self.now in omega (arith, from_here s.playable p.4 p.5, s.roomy.answers)

pub returns-then-self-at-clause-pulls : goal.returns-then-self-at-clause-pulls
returns-then-self-at-clause-pulls c = λ target before head i look st. look_stays c.args.self.now.playable look st (λ e. omega arith)

pub still_waits-requires : goal.still_waits-requires
still_waits-requires c =
    let p = c.requires in
    let s = c.args.self.now in
    record { from = from_here s.playable p.4 p.5; counts = s.roomy.counts; waits = look_awaits s.playable p.4 p.5 (omega arith) }

pub returns-then-still_waits-clause-pulls : goal.returns-then-still_waits-clause-pulls
returns-then-still_waits-clause-pulls c = λ target before head i look st. let s = c.args.self.now in look_waits s.playable look st _ (omega arith) s.roomy.counts c.if-still_waits.ensures

pub bounds-self-at-3 : goal.bounds-self-at-3
bounds-self-at-3 c = let p = c.requires in let s = c.args.self.now in omega (arith, from_here s.playable p.4 p.5, s.roomy.answers, length-set s.out.now (2 * c.args.from) c.args.number)

pub bounds-self-self : goal.bounds-self-self
bounds-self-self c = let p = c.requires in let s = c.args.self.now in omega (arith, look_room s.playable p.4 p.5 (omega arith), s.roomy.queues)

pub returns-clause-pulls : goal.returns-clause-pulls
returns-clause-pulls c = λ target before head i look st. let s = c.args.self.now in look_comes s.playable look st _ (omega arith) s.roomy.counts c.if-still_waits.ensures s.roomy.answers s.roomy.queues
