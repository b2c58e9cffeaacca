use Rattle.std.proofs.Common.{◌≡◌, ◌<◌, ◌+◌, length, vec_items, sym, ap, subst, arith}
use Rattle.std.proofs.lemmas.Bool.{eqb-true, eqb-false}
use Rattle.std.proofs.lemmas.Result.{err_from_is_err_and}
use Rattle.pgsolver.proofs.Gathers.{LeftNodes, nodes_first, nodes_all, nodes_many, nodes_slip, nodes_less, nodes_more, stops_on}
use Rattle.pgsolver.proofs.text.read_nodes.Goals as goal

pub loop-here-init : goal.loop-here-init
loop-here-init c = nodes_first _ _ c.new-nodes.ensures.items

pub returns-then-is_empty : goal.returns-then-is_empty
returns-then-is_empty c = nodes_all _ _ _ _ c.loop-here.invariant _ c.skip-here.ensures (eqb-true _ 0 (sym c.if-is_empty.ensures))

pub returns-then-len-ge-MOST_NODES : goal.returns-then-len-ge-MOST_NODES
returns-then-len-ge-MOST_NODES c =
    rw c.at.ensures (nodes_many _ _ _ _ c.loop-here.invariant _ c.skip-here.ensures (eqb-false _ 0 (sym c.if-is_empty.ensures)) (omega (arith, c.if-len-ge-MOST_NODES.true, c.len.ensures, c.loop-here.nodes.ok.0)))

pub returns-in_err-node : goal.returns-in_err-node
returns-in_err-node c =
    let p = err_from_is_err_and c.from_residual.result c.from_residual.ensures.1 in
    let few : length (vec_items c.loop-here.nodes) < 16384 = omega (arith, c.if-len-ge-MOST_NODES.false, c.len.ensures, c.loop-here.nodes.ok.0) in
    rw (p.1, p.2) (stops_on _ _ (nodes_slip _ _ _ _ c.loop-here.invariant _ c.skip-here.ensures (eqb-false _ 0 (sym c.if-is_empty.ensures)) few) _ c.in_err-node.ensures)

pub loop-here-smaller : goal.loop-here-smaller
loop-here-smaller c =
    let few : length (vec_items c.loop-here.nodes) < 16384 = omega (arith, c.if-len-ge-MOST_NODES.false, c.len.ensures, c.loop-here.nodes.ok.0) in
    nodes_less _ _ _ _ c.loop-here.invariant _ c.skip-here.ensures (eqb-false _ 0 (sym c.if-is_empty.ensures)) few _ _ c.in_ok-node.ensures

pub loop-here-preserved : goal.loop-here-preserved
loop-here-preserved c =
    let few : length (vec_items c.loop-here.nodes) < 16384 = omega (arith, c.if-len-ge-MOST_NODES.false, c.len.ensures, c.loop-here.nodes.ok.0) in
    let longer = c.in_ok-push.ensures.items in
    let more = nodes_more _ _ _ _ c.loop-here.invariant _ c.skip-here.ensures (eqb-false _ 0 (sym c.if-is_empty.ensures)) few _ _ c.in_ok-node.ensures _ longer in
    let many : c.len-used.result ≡ length c.in_ok-node.node.goes = omega (arith, c.len-used.ensures.value, ap (λ e. length e.goes) c.node.view_is) in
    subst (λ m. LeftNodes c.args.text.now (vec_items c.push.new.self) (c.loop-here.used + m) c.in_ok-node.after.now) (sym many) more
