use Rattle.std.proofs.Common.{length, ap, arith}
use Rattle.moves.proofs.Lists.{next_most}
use Rattle.moves.proofs.Tries.{tried_place}
use Rattle.moves.proofs.trying.Trying.try_place.Goals as goal

pub overflow_add-next : goal.overflow_add-next
overflow_add-next c =
    let s = c.args.self.now in
    omega (arith, next_most s.solved.places.now c.args.place c.args.first c.requires.place c.requires.first, ap length c.moves.ensures.moves, s.roomy.marks)

pub returns-clause-tries : goal.returns-clause-tries
returns-clause-tries c = tried_place c.requires.place c.requires.first c.loop-k.invariant (omega (arith, ap length c.moves.ensures.moves))
