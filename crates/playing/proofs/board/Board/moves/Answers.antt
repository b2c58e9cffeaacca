use Rattle.std.specs.Prelude.{All}
use Rattle.std.proofs.Common.{◌<◌, length, ap, sym, subst, arith}
use Rattle.endless.specs.Graph.{moves}
use Rattle.endless.proofs.Places.{some_moves}
use Rattle.playing.proofs.Boards.{moves_within}
use Rattle.playing.proofs.board.Board.moves.Goals as goal

pub returns-clause-some : goal.returns-clause-some
returns-clause-some c =
    subst (λ l. 0 < length l) (sym c.moves.ensures.moves)
    (some_moves c.moves.ensures.playable c.args.place (omega (arith, ap (λ b. length b.game) c.self.view_is, c.requires)))

pub returns-clause-inside : goal.returns-clause-inside
returns-clause-inside c =
    subst (All (λ m. m < length c.args.self.now.game)) (sym c.moves.ensures.moves)
    (subst (λ g. All (λ m. m < length g) (moves c.self.inside.places c.args.place)) (ap (λ b. b.game) c.self.view_is) (moves_within c.moves.ensures.playable c.args.place))
