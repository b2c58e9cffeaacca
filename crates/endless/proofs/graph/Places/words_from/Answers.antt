use Rattle.std.proofs.Common.{length, ap, ◌∙◌, arith}
use Rattle.endless.proofs.PositionLaws.{position_is}
use Rattle.endless.proofs.Reading.{front_long}
use Rattle.endless.proofs.View.{start_of}
use Rattle.endless.proofs.graph.Places.words_from.Goals as goal

pub words_from-requires : goal.words_from-requires
words_from-requires c = (start_of c.self.view_is c.self.invariant c.requires (position_is _ c.args.n c.position-at.ensures)).bound

pub returns-clause-long : goal.returns-clause-long
returns-clause-long c =
    let start = start_of c.self.view_is c.self.invariant c.requires (position_is _ c.args.n c.position-at.ensures) in
    omega (arith, ap length (c.words_from.ensures.are ∙ start.left), ap length c.self.view_is, front_long c.self.inside.game c.args.n (omega (arith, ap length c.self.view_is)))
