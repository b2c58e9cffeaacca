use Rattle.std.proofs.Common.{string_bytes, map, sym, ◌∙◌, arith}
use Rattle.std.proofs.lemmas.List.{length-map}
use Rattle.drawing.proofs.Collecting.{collected_all, inserted_twice, inserted_more}
use Rattle.drawing.proofs.names.Names.of.Goals as goal

pub returns-then-not-branch : goal.returns-then-not-branch
returns-then-not-branch c = λ text.
    inserted_twice c.args.names.now c.loop-name.all.keys c.loop-name.name-index c.loop-name.invariant c.loop-name-test.true c.name-item.result c.name-item.is c.in_ok-clone.field-0 c.in_ok-clone.ensures.cases (sym c.in_ok-insert.ensures.added ∙ c.if-not-branch.true) c.in_ok-clone-2.field-0 c.in_ok-clone-2.ensures.cases

pub loop-name-preserved : goal.loop-name-preserved
loop-name-preserved c =
    inserted_more c.args.names.now c.loop-name.all.keys c.loop-name.name-index c.loop-name.invariant c.loop-name-test.true c.name-item.result c.name-item.is c.in_ok-clone.field-0 c.in_ok-clone.ensures.cases (sym c.in_ok-insert.ensures.added ∙ c.if-not-branch.false) c.insert.new.self.keys c.in_ok-insert.ensures.keys

pub returns : goal.returns
returns c = collected_all (map string_bytes c.args.names.now) (map string_bytes c.loop-name.all.keys) c.loop-name.name-index c.loop-name.invariant (omega (arith, c.loop-name-test.false, length-map c.args.names.now string_bytes))
