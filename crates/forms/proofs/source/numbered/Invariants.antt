use Rattle.std.proofs.Common.{map, string_bytes, ◌≡◌, ℕ, ◌<◌, ◌^◌, length, ◌++◌, slice_index}
use Rattle.std.proofs.Common.{deque_items}
use Rattle.pgsolver.specs.Ids.{ids_of, names_of}
use Rattle.forms.proofs.source.numbered.Given as goal

abbrev pub invariant-loop-i : goal.invariant-loop-i
invariant-loop-i l =
    (names_of l.nodes.items ++ map string_bytes (deque_items l.i-iterator.iter.rest) ≡ map string_bytes l.fn.names.items) ×
    (l.i-iterator.count ≡ length l.nodes.items) ×
    ((i : ℕ) → i < length l.nodes.items → i < 2 ^ 32 → slice_index (ids_of l.nodes.items) i ≡ i)
