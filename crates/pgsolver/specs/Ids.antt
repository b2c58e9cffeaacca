-- The ids and the names of places.
use Rattle.std.specs.Prelude.{ℕ, max, List, map, vec_items}
use Rattle.std.specs.List.{fold}
use Rattle.pgsolver.specs.declared.Named.{Named}

abbrev pub ids_of : List Named → List ℕ
ids_of places = map (λ p. p.id) places

abbrev pub names_of : List Named → List (List ℕ)
names_of places = map (λ p. vec_items p.name) places

-- the highest of the ids; 0 where there are none
abbrev pub highest : List ℕ → ℕ
highest ids = fold max 0 ids
