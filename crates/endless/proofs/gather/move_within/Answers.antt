use Rattle.std.proofs.Common.{arith}
use Rattle.endless.proofs.Tests.{true_T}
use Rattle.endless.proofs.MovesAt.{move_at, move_inside, none_into}
use Rattle.endless.proofs.gather.move_within.Goals as goal

pub first_into-requires : goal.first_into-requires
first_into-requires c =
    record { inside = λ k h. omega (arith, move_inside c.moves-moves.ensures.playable c.args.place c.moves-moves.result.now c.moves-moves.ensures.moves k h, c.requires.sets) }

pub returns-in-Some : goal.returns-in-Some
returns-in-Some c = λ k may x.
    let t = c.in-Some.ensures in
    (move_at c.args.graph.now c.args.place c.moves-moves.result.now c.moves-moves.ensures.moves c.in-Some.k t.0, true_T _ t.1)

pub returns-in-None : goal.returns-in-None
returns-in-None c = λ k may x. absurd (none_into c.args.graph.now c.args.place c.args.set.now c.moves-moves.result.now c.moves-moves.ensures.moves c.in-None.ensures k may x)
