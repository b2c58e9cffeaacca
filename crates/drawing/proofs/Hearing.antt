-- A bare `-` on a line of an answer.
use Rattle.std.proofs.Common.{◌≡◌, ◌≢◌, ℕ, List, [], ◌∷◌, None, refl, ap, ⊎_elim}
use Rattle.std.proofs.lemmas.Bool.{cond-false, ne_eqb, cases_eq}
use Rattle.drawing.specs.Telling.{behind_first}

pub no_dash : (bs : List ℕ) → ((rest : List ℕ) → bs ≢ 45 ∷ rest) → behind_first bs ≡ None
no_dash [] h = refl
no_dash (b ∷ bs) h = ⊎_elim (λ e. absurd (h bs (ap (λ c. c ∷ bs) e))) (λ ne. cond-false _ _ _ (ne_eqb b 45 ne)) (cases_eq b 45)
