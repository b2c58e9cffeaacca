use Rattle.std.proofs.Common.{◌≡◌, get_or, sym, ap, ◌∙◌, arith}
use Rattle.std.proofs.lemmas.List.{length-map}
use Rattle.pgsolver.specs.Form.{ids_in}
use Rattle.pgsolver.proofs.Assembling.{id_is}
use Rattle.pgsolver.proofs.Writes.{not_false, not_true, indexed_twice, indexed_more}
use Rattle.pgsolver.proofs.ids.Places.of.Goals as goal

pub returns-then-not-branch : goal.returns-then-not-branch
returns-then-not-branch c =
    let nodes = c.args.nodes.now in
    let n = c.loop-n.n in
    let is : get_or (ids_in nodes) n 0 ≡ c.node.inside.head.id = sym (id_is nodes n c.index-nodes-n.result c.loop-n-test.true) ∙ ap (λ d. d.first.id) (sym (c.node.view_is ∙ c.index-nodes-n.is)) in
    indexed_twice (ids_in nodes) _ n _ c.loop-n.invariant (omega (arith, c.loop-n-test.true, length-map nodes (λ e. e.first.id))) is (not_false _ (sym c.in_ok-insert.ensures.added ∙ c.if-not-branch.true))

pub loop-n-preserved : goal.loop-n-preserved
loop-n-preserved c =
    let nodes = c.args.nodes.now in
    let n = c.loop-n.n in
    let is : get_or (ids_in nodes) n 0 ≡ c.node.inside.head.id = sym (id_is nodes n c.index-nodes-n.result c.loop-n-test.true) ∙ ap (λ d. d.first.id) (sym (c.node.view_is ∙ c.index-nodes-n.is)) in
    indexed_more (ids_in nodes) _ n _ c.loop-n.invariant (omega (arith, c.loop-n-test.true, length-map nodes (λ e. e.first.id))) is (not_true _ (sym c.in_ok-insert.ensures.added ∙ c.if-not-branch.false)) _ c.in_ok-insert.ensures.keys
