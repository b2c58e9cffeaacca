use Rattle.std.proofs.Common.{◌≡◌, ◌++◌, take}
use Rattle.playing.specs.Windows.{latest}
use Rattle.playing.proofs.window.Window.push_all.Given as goal

-- the first of the weights have come
abbrev pub invariant-loop-weight : goal.invariant-loop-weight
invariant-loop-weight l = l.self ≡ latest 1000 (l.initial.self ++ take l.weight-index l.weights)
