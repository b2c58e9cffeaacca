-- What the recursion works in.
use Rattle.std.specs.Prelude.{◌≡◌, length}
use Rattle.endless.specs.declared.desk.Desk.{Desk}

-- the same lent words
pub record SameDesk (a b : Desk) : Type 0 where
  pub out : b.out.ghost_name ≡ a.out.ghost_name
  pub queue : b.queue.ghost_name ≡ a.queue.ghost_name
  pub via : b.via.ghost_name ≡ a.via.ghost_name
  pub escapes : b.escapes.ghost_name ≡ a.escapes.ghost_name
  pub out_long : length b.out.now ≡ length a.out.now
  pub queue_long : length b.queue.now ≡ length a.queue.now
  pub via_long : length b.via.now ≡ length a.via.now
  pub escapes_long : length b.escapes.now ≡ length a.escapes.now
