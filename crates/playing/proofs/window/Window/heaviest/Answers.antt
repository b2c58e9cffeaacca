use Rattle.std.proofs.Common.{subst, deque_items}
use Rattle.playing.specs.Windows.{HeaviestIs}
use Rattle.playing.proofs.Windows.{heaviest_told}
use Rattle.playing.proofs.window.Window.heaviest.Goals as goal

pub returns : goal.returns
returns c =
    let w = c.self.inside in
    subst (λ l. HeaviestIs l c.greatest.result) c.self.view_is
    (heaviest_told (deque_items w.weights) w.counts c.self.invariant.kinds c.self.invariant.tells c.self.invariant.light c.greatest.result c.greatest.ensures)
