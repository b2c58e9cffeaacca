use Rattle.std.proofs.Common.{rules, length, ap, arith}
use Rattle.moves.proofs.Lists.{length_origins}
use Rattle.moves.proofs.Marks.{noted_one, noted_not, noted_all}
use Rattle.moves.proofs.solved.Solved.mark_plan.Goals as goal
use Rattle.moves.proofs.solved.Solved.mark_plan.Goals.{then-makes, else-makes}

pub makes-requires-clause-inside : goal.makes-requires-clause-inside
makes-requires-clause-inside c = let s = c.args.self.now in omega (arith, length_origins 0 s.places.now, ap length s.from_are)

pub bounds-out-places : goal.bounds-out-places
bounds-out-places c = let s = c.args.self.now in omega (arith, length_origins 0 s.places.now, ap length s.from_are, c.requires.room, c.len-places.ensures.len)

pub loop-k-preserved : goal.loop-k-preserved
loop-k-preserved c =
    let s = c.args.self.now in
    elim c.if-makes.branch [ then-makes w ↦ noted_one c.loop-k.invariant (omega arith) (omega (arith, length_origins 0 s.places.now, ap length s.from_are, c.requires.room)) (search rules) c.len-places.ensures.len w.out-is | else-makes w ↦ noted_not c.loop-k.invariant (omega arith) (search rules) w.out-is ]

pub returns : goal.returns
returns c =
    let s = c.args.self.now in
    noted_all (omega (arith, length_origins 0 s.places.now, ap length s.from_are, c.requires.first)) c.loop-k.invariant
