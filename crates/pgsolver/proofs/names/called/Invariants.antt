use Rattle.std.proofs.Common.{◌≡◌, ℕ, ◌^◌, ◌<◌, map, take, get_or, string_bytes, vec_items}
use Rattle.pgsolver.specs.Called.{called}
use Rattle.pgsolver.specs.Ids.{ids_of}
use Rattle.pgsolver.proofs.names.called.Given as goal

abbrev pub invariant-loop-place : goal.invariant-loop-place
invariant-loop-place l = record {
  are : map string_bytes (vec_items l.all) ≡ map (called l.places) (take l.place-index l.places);
  fit : (k : ℕ) → k < l.place-index → get_or (ids_of l.places) k 0 < 2 ^ 64;
}
