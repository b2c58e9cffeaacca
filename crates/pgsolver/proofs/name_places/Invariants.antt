use Rattle.std.proofs.Common.{◌≡◌, ◌++◌, map, vec_items, deque_items}
use Rattle.pgsolver.specs.Form.{ids_in}
use Rattle.pgsolver.proofs.name_places.Given as goal

abbrev pub invariant-loop-node : goal.invariant-loop-node
invariant-loop-node l =
    (map (λ p. p.id) l.places.items ++ ids_in (deque_items l.node-iterator.rest) ≡ ids_in l.fn.nodes.items) ×
    (map (λ p. vec_items p.name) l.places.items ++ map (λ e. e.named) (deque_items l.node-iterator.rest) ≡ map (λ e. e.named) l.fn.nodes.items)
