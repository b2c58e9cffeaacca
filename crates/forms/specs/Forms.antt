-- The forms in which games are written.
use Rattle.std.specs.Prelude.{ℕ, cond, List, [], ◌∷◌, ◌==◌}
use Rattle.std.specs.List.{ends_with}
use Rattle.forms.specs.declared.form.Form.{Form}
use Rattle.forms.specs.declared.form.Form.TheVariants.{Drawing, Pgsolver}

-- PGSolver's form where the name of the file ends in ".pg"
abbrev pub form_of : List ℕ → Form
form_of path = cond (ends_with (λ a b. a == b) path (46 ∷ 112 ∷ 103 ∷ [])) Pgsolver Drawing

-- the most bytes of a text of a form
abbrev pub limit : Form → ℕ
limit Drawing = 1572864
limit Pgsolver = 1048576
