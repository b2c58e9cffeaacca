use Rattle.std.proofs.Common.{set, subst, arith}
use Rattle.std.proofs.lemmas.List.{length-map}
use Rattle.endless.specs.Graph.{joined, positions}
use Rattle.endless.proofs.PositionLaws.{positions_set}
use Rattle.endless.proofs.Starts.{Starting, starting_more, starting_all}
use Rattle.endless.proofs.graph.find_starts.Goals as goal

pub loop-i-preserved : goal.loop-i-preserved
loop-i-preserved c =
    let step = c.in-Some.ensures.steps in
    starting_more c.args.game.now _ _ _ _ c.loop-i.invariant c.in-Some.head _ step.0 c.in-Some.i _
    (positions (set c.loop-i.starts c.in-Some.i c.halves.result)) (omega (arith, length-map c.loop-i.starts joined)) step.1 step.2
    (positions_set c.loop-i.starts c.in-Some.i c.halves.result c.halves.ensures)

pub returns : goal.returns
returns c =
    starting_all c.args.game.now (positions c.loop-i.starts) c.loop-i.i-iterator.count c.loop-i.at
    (subst (λ h. Starting c.args.game.now h (positions c.loop-i.starts) c.loop-i.i-iterator.count c.loop-i.at) c.in-None.ensures.steps.0.0 c.loop-i.invariant)
    (omega (arith, length-map c.loop-i.starts joined))
