-- What a walk through places has met.
use Rattle.std.specs.Prelude.{◌≡◌, ℕ, ◌<◌, List, length, slice_index_or}
use Rattle.std.specs.List.{sum_by}
use Rattle.allplans.specs.declared.components.Mark.{Mark}
use Rattle.allplans.specs.declared.components.Mark.TheVariants.{New, Open, Closed}

-- 1 of a place that was not met, and 0 of another
abbrev pub unmet_one : Mark → ℕ
unmet_one New = 1
unmet_one (Open _ _) = 0
unmet_one (Closed _) = 0

-- how many places were not met
abbrev pub unmet : List Mark → ℕ
unmet marks = sum_by unmet_one marks

-- this place was not
abbrev pub IsNewAt : List Mark → ℕ → Type 0
IsNewAt marks place = (place < length marks) × (slice_index_or marks place New ≡ New)
