use Rattle.std.proofs.Common.{sym, ◌∙◌}
use Rattle.endless.proofs.Reading.{front_place}
use Rattle.endless.proofs.graph.Places.moves.Goals as goal

pub first_moves-requires : goal.first_moves-requires
first_moves-requires c = let t = front_place c.args.self.now c.args.n c.requires in (t.0, t.1, c.words_from.ensures.are ∙ t.2)

pub returns-clause-moves : goal.returns-clause-moves
returns-clause-moves c = let t = front_place c.args.self.now c.args.n c.requires in c.first_moves.ensures.are t.0 t.1 (c.words_from.ensures.are ∙ t.2) ∙ sym t.3
