use Rattle.std.proofs.Common.{rules}
use Rattle.endless.specs.Sides.{number}
use Rattle.endless.specs.Pulling.{Labelled}
use Rattle.endless.proofs.Working.{attracts_labelled}
use Rattle.endless.proofs.attractor.attract.Goals as goal

pub returns-clause-attracts : goal.returns-clause-attracts
returns-clause-attracts c = λ U D starts counted.
    let after = c.attract.new.self in
    let labels : Labelled (number c.args.side) after.queue.now after.via.now c.args.targets after.tail c.args.desk.now.out.now c.label.new.out = let t = c.label.ensures in search rules in
    let attracts = attracts_labelled (c.attract.ensures.brings U D starts counted) labels in
    search rules
