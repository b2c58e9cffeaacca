-- What `strip_prefix` gives.
use Rattle.std.proofs.Common.{◌≡◌, ℕ, List, [], ◌∷◌, ◌++◌, Some, None, Option, sym, refl, ap, ◌∙◌, ⊎_elim}
use Rattle.std.specs.Borrow.{Bor}
use Rattle.std.specs.Option.{MatchOption, option_map}
use Rattle.std.proofs.lemmas.Bool.{cond-true, cond-false, ne_eqb, eq-eqb, cases_eq}
use Rattle.pgsolver.specs.Form.{starts}
use Rattle.pgsolver.specs.Read.{ref_now}

-- what `strip_prefix` leaves is what stands behind the word
pub starts_none : (ws bs : List ℕ) → ((rest : List ℕ) → bs ≡ ws ++ rest → ⊥) → starts ws bs ≡ None
starts_none [] bs h = absurd (h bs refl)
starts_none (w ∷ ws) [] h = refl
starts_none (w ∷ ws) (b ∷ bs) h =
    ⊎_elim
    (λ e. cond-true _ _ _ (eq-eqb b w e) ∙ starts_none ws bs (λ rest k. h rest (cc)))
    (λ ne. cond-false _ _ _ (ne_eqb b w ne))
    (cases_eq b w)

starts_behind : (ws rest : List ℕ) → starts ws (ws ++ rest) ≡ Some rest
starts_behind [] rest = refl
starts_behind (w ∷ ws) rest = cond-true _ _ _ (eq-eqb w w refl) ∙ starts_behind ws rest

pub starts_some : (ws bs rest : List ℕ) → bs ≡ ws ++ rest → starts ws bs ≡ Some rest
starts_some ws bs rest e = ap (starts ws) e ∙ starts_behind ws rest

pub stripped : (ws bs : List ℕ) (r : Option (Bor (List ℕ))) → MatchOption r ((rest : List ℕ) → bs ≡ ws ++ rest → ⊥) (λ x. bs ≡ ws ++ x.now) → option_map ref_now r ≡ starts ws bs
stripped ws bs None h = sym (starts_none ws bs h)
stripped ws bs (Some x) h = sym (starts_some ws bs x.now h)
