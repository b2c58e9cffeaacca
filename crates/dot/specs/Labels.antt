-- A text in a label: a quote and a backslash stand behind a backslash, and `&` is written by its name.
use Rattle.std.specs.Prelude.{ℕ, cond, List, [], ◌∷◌, codes, flat_map, encode_utf8, ◌==◌}

-- what stands for the character b, where rest stands for the others
abbrev pub marks : ℕ → List ℕ → List ℕ
marks b rest = cond (b == 34) (codes "\\\"") (cond (b == 92) (codes "\\\\") (cond (b == 38) (codes "&amp;") rest))

-- byte by byte: of a character of more than one byte, no byte is one of the three
abbrev pub escaped : List ℕ → List ℕ
escaped = flat_map (λ b. marks b (b ∷ []))

abbrev pub marked : ℕ → List ℕ
marked c = marks c (encode_utf8 c)
