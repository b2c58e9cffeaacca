use Rattle.std.proofs.Common.{subst}
use Rattle.endless.specs.Games.{Game}
use Rattle.endless.specs.Says.{side, goes}
use Rattle.endless.specs.Sets.{whole}
use Rattle.endless.specs.Subgames.{Solves}
use Rattle.endless.specs.Bits.{members}
use Rattle.endless.proofs.Ways.{counted_alike}
use Rattle.endless.proofs.Layouts.{laid_graph, filled_whole, whole_filled, filled_solved, filled_subgame}
use Rattle.endless.proofs.layout.solve_game.Goals as goal

pub solve-requires-clause-subgame : goal.solve-requires-clause-subgame
solve-requires-clause-subgame c =
    let laid = laid_graph c.lay_out.result c.lay_out.ensures in
    filled_subgame c.lay_out.result.graph c.lay_out.result.all.now laid.are laid.playable

pub solve-requires-clause-escapes : goal.solve-requires-clause-escapes
solve-requires-clause-escapes c =
    let g : Game = c.lay_out.result.graph in
    let all = c.lay_out.result.all.now in
    let are = (laid_graph c.lay_out.result c.lay_out.ensures).are in
    counted_alike g (whole g) (members all) c.lay_out.result.escapes.now (whole_filled g all are) (filled_whole g all are) c.lay_out.ensures.counted

pub returns-clause-solves : goal.returns-clause-solves
returns-clause-solves c =
    let laid = laid_graph c.lay_out.result c.lay_out.ensures in
    let out = c.solve.new.out in
    subst (λ (g : Game). Solves g (whole g) (side out) (goes out)) c.lay_out.ensures.is (filled_solved c.lay_out.result.graph c.lay_out.result.all.now laid.are out c.solve.ensures.solves)
