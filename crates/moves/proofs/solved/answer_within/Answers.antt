use Rattle.std.proofs.Common.{subst}
use Rattle.endless.specs.Games.{Game}
use Rattle.endless.specs.Says.{side, goes}
use Rattle.endless.specs.Bits.{members}
use Rattle.endless.specs.Subgames.{Subgame, Solves}
use Rattle.endless.proofs.Unique.{one_game}
use Rattle.moves.proofs.solved.answer_within.Goals as goal

pub solve_within-requires-clause-subgame : goal.solve_within-requires-clause-subgame
solve_within-requires-clause-subgame c =
    let t = c.requires.game in
    subst (λ (h : Game). Subgame h (members c.args.set.now)) (one_game c.args.words.now t.0 c.known-game.result t.1 c.known-game.ensures) t.4

pub returns : goal.returns
returns c = λ g r.
    let out = c.solve_within.new.out in
    subst (λ (h : Game). Solves h (members c.args.set.now) (side out) (goes out)) (one_game c.args.words.now c.known-game.result g c.known-game.ensures r) c.solve_within.ensures.solves
