-- Sets of places as marks.
use Rattle.std.specs.Prelude.{ℕ, Bool, List, Option, is_some, if◌then◌else◌}
use Rattle.std.specs.List.{sum_by}

-- how many places are not in the set
abbrev pub missing : List Bool → ℕ
missing marks = sum_by (λ here. if here then 0 else 1) marks

-- for how many places no place before them is known
abbrev pub unknown : List (Option ℕ) → ℕ
unknown before = sum_by (λ step. if is_some step then 0 else 1) before

-- and for how many one is
abbrev pub known : List (Option ℕ) → ℕ
known before = sum_by (λ step. if is_some step then 1 else 0) before
