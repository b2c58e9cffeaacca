-- The place of a byte, counted from further in front.
use Rattle.std.proofs.Common.{ℕ, ◌+◌, Some, None, Option}

abbrev pub further : ℕ → Option ℕ → Option ℕ
further n None = None
further n (Some k) = Some (n + k)
