-- What places are put into groups in.
use Rattle.std.specs.Prelude.{◌≡◌, length}
use Rattle.quotient.specs.declared.group.Groups.{Groups}

-- the same lent words
pub record SameGroups (a b : Groups) : Type 0 where
  pub made : b.made.ghost_name ≡ a.made.ghost_name
  pub heads : b.heads.ghost_name ≡ a.heads.ghost_name
  pub links : b.links.ghost_name ≡ a.links.ghost_name
  pub set : b.set.ghost_name ≡ a.set.ghost_name
  pub made_long : length b.made.now ≡ length a.made.now
  pub heads_long : length b.heads.now ≡ length a.heads.now
  pub links_long : length b.links.now ≡ length a.links.now
  pub set_long : length b.set.now ≡ length a.set.now
