use Rattle.std.proofs.Common.{◌<◌, length, ap, ◌∙◌, subst, arith}
use Rattle.pgsolver.specs.Listed.{line_at, Unassembled, Inside}
use Rattle.pgsolver.proofs.Assembling.{left_is, id_is}
use Rattle.pgsolver.proofs.refused.Goals as goal

pub returns-in-Twice : goal.returns-in-Twice
returns-in-Twice c said u =
    let nodes = c.args.nodes.now in
    let n = c.in-Twice.n in
    let t = subst (Unassembled nodes) c.in-Twice.is u in
    let l : n < length nodes = omega (arith, subst (Inside nodes) c.in-Twice.is c.requires) in
    (nodes, n, said, t, ap (λ e. e.first.id) (c.node.view_is ∙ c.index-nodes-n.is) ∙ id_is nodes n _ l, c.line_of.ensures ∙ ap (line_at c.args.text.now) (ap (λ e. e.left) c.index-nodes-n.is ∙ left_is nodes n _ l))

pub returns-in-Unknown : goal.returns-in-Unknown
returns-in-Unknown c said u =
    let nodes = c.args.nodes.now in
    let n = c.in-Unknown.n in
    let t = subst (Unassembled nodes) c.in-Unknown.is u in
    let l : n < length nodes = omega (arith, subst (Inside nodes) c.in-Unknown.is c.requires) in
    (nodes, n, said, t.0, t.1, t.2, c.line_of-in-Unknown.ensures ∙ ap (line_at c.args.text.now) (ap (λ e. e.left) c.index-nodes-n-in-Unknown.is ∙ left_is nodes n _ l))

pub returns-in-Priority : goal.returns-in-Priority
returns-in-Priority c said u =
    let nodes = c.args.nodes.now in
    let n = c.in-Priority.n in
    let t = subst (Unassembled nodes) c.in-Priority.is u in
    let l : n < length nodes = omega (arith, subst (Inside nodes) c.in-Priority.is c.requires) in
    (nodes, n, said, t, c.line_of-in-Priority.ensures ∙ ap (line_at c.args.text.now) (ap (λ e. e.left) c.index-nodes-n-in-Priority.is ∙ left_is nodes n _ l))
