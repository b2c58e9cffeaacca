use Rattle.std.proofs.Common.{map, sym, ◌∙◌, arith}
use Rattle.std.proofs.lemmas.List.{length-map}
use Rattle.std.proofs.lemmas.Bool.{not-false, not-true}
use Rattle.pgsolver.proofs.Writes.{indexed_twice, indexed_more}
use Rattle.pgsolver.proofs.Tellings.{id_named, indexed_all, again_twice}
use Rattle.pgsolver.proofs.ids.Places.named.Goals as goal

pub returns-then-not-branch : goal.returns-then-not-branch
returns-then-not-branch c = λ text.
    let ids = map (λ p. p.id) c.args.nodes.now in
    let is = id_named c.args.nodes.now c.loop-named.named-index c.named-item.result c.loop-named-test.true c.named-item.is in
    again_twice ids c.loop-named.named-index c.named-item.result.id is (indexed_twice ids _ c.loop-named.named-index _ c.loop-named.invariant (omega (arith, c.loop-named-test.true, length-map c.args.nodes.now (λ p. p.id))) is (not-false _ (sym c.in_ok-insert.ensures.added ∙ c.if-not-branch.true)))

pub loop-named-preserved : goal.loop-named-preserved
loop-named-preserved c =
    let ids = map (λ p. p.id) c.args.nodes.now in
    let is = id_named c.args.nodes.now c.loop-named.named-index c.named-item.result c.loop-named-test.true c.named-item.is in
    indexed_more ids _ c.loop-named.named-index _ c.loop-named.invariant (omega (arith, c.loop-named-test.true, length-map c.args.nodes.now (λ p. p.id))) is (not-true _ (sym c.in_ok-insert.ensures.added ∙ c.if-not-branch.false)) _ c.in_ok-insert.ensures.keys

pub returns : goal.returns
returns c = indexed_all (map (λ p. p.id) c.args.nodes.now) _ c.loop-named.named-index c.loop-named.invariant (omega (arith, c.loop-named-test.false, length-map c.args.nodes.now (λ p. p.id)))
