-- What `read` and `read_as` answer.
use Rattle.std.specs.Prelude.{◌≡◌, ℕ, List, map, Ok, vec_items, string_bytes, Result, MatchResult}
use Rattle.drawing.specs.declared.Drawing.{Drawing}
use Rattle.drawing.specs.declared.kind.Kind.{Kind}
use Rattle.drawing.specs.declared.refusal.Refusal.{Refusal}
use Rattle.drawing.specs.Passes.{Refuses}
use Rattle.drawing.specs.Reading.{reading}

abbrev pub drawn_names : Drawing → List (List ℕ)
drawn_names d = map string_bytes (vec_items d.names)

abbrev pub drawn_words : Drawing → List ℕ
drawn_words d = vec_items d.words

-- the names and the words that the text reads as, or why it reads as none
abbrev pub Answers : Kind → List ℕ → Result Drawing Refusal → Type 0
Answers k text r = MatchResult r (λ d. reading k text ≡ Ok (drawn_names d, drawn_words d)) (λ e. Refuses (reading k text) e)
