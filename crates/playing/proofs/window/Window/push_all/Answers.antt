use Rattle.std.proofs.Common.{◌∷◌, ◌++◌, get_or, ap, ◌∙◌, []}
use Rattle.playing.specs.Windows.{latest}
use Rattle.playing.proofs.Windows.{latest_more}
use Rattle.playing.proofs.window.Window.push_all.Goals as goal

pub loop-weight-preserved : goal.loop-weight-preserved
loop-weight-preserved c =
    c.push.ensures ∙ ap (λ l. latest 1000 (l ++ get_or c.args.weights.now c.loop-weight.weight-index 0 ∷ [])) c.loop-weight.invariant
    ∙ latest_more 1000 c.args.self.now c.args.weights.now c.loop-weight.weight-index c.loop-weight-test.true
