-- Places in parts.
use Rattle.std.specs.Prelude.{◌≡◌, length}
use Rattle.quotient.specs.declared.round.Partition.{Partition}

-- the same lent words
pub record SamePartition (a b : Partition) : Type 0 where
  pub parts : b.parts.ghost_name ≡ a.parts.ghost_name
  pub sizes : b.sizes.ghost_name ≡ a.sizes.ghost_name
  pub out : b.out.ghost_name ≡ a.out.ghost_name
  pub parts_long : length b.parts.now ≡ length a.parts.now
  pub sizes_long : length b.sizes.now ≡ length a.sizes.now
  pub out_long : length b.out.now ≡ length a.out.now
