-- Text in which no byte is below 32 stays within its line.
use Rattle.std.proofs.Common.{◌≡◌, ℕ, ◌≤◌, Bool, true, false, cond, ◌&&◌, ◌||◌, eqb, ltb, List, [], ◌∷◌, ◌++◌, refl, ap, ◌∙◌, arith}
use Rattle.std.specs.List.{onto_first}
use Rattle.std.proofs.lemmas.Bool.{cond-false, or_parts, ne_eqb, ltb-false}
use Rattle.drawing.specs.Form.{control, control_within}
use Rattle.drawing.specs.Reading.{lines, bared}
use Rattle.drawing.specs.Spelling.{plainly, escaped, spelling, IsName}
use Rattle.drawing.proofs.RoundTrip.{clear_escaped}
use Rattle.drawing.proofs.Numbers.{Figures}

-- no byte is below 32
abbrev pub Printable : List ℕ → Type 0
Printable [] = Unit {0}
Printable (b ∷ bs) = (32 ≤ b) × Printable bs

pub printable_append : (xs ys : List ℕ) → Printable xs → Printable ys → Printable (xs ++ ys)
printable_append [] ys h k = k
printable_append (x ∷ xs) ys h k = (h.0, printable_append xs ys h.1 k)

printable_clear : (wide : Bool) (n : List ℕ) → control_within wide n ≡ false → Printable n
printable_clear wide [] h = tt
printable_clear wide (b ∷ bs) h =
    let p = or_parts (control wide b) (control_within (eqb b 194) bs) h in
    let q = or_parts (ltb b 32 || eqb b 127) (wide && ltb b 160) p.0 in
    (ltb-false b 32 (or_parts (ltb b 32) (eqb b 127) q.0).0, printable_clear (eqb b 194) bs p.1)

pub printable_name : (n : List ℕ) → IsName n → Printable (spelling n)
printable_name n is = at (plainly n)
  where
    at : (t : Bool) → Printable (cond t n (34 ∷ (escaped n ++ (34 ∷ []))))
    at true = printable_clear false n is.clear
    at false = (omega arith, printable_append (escaped n) (34 ∷ []) (printable_clear false (escaped n) (clear_escaped false n is.clear)) (omega arith, tt))

pub printable_figures : (ds : List ℕ) → Figures ds → Printable ds
printable_figures [] f = tt
printable_figures (b ∷ bs) f = (omega (arith, f.0), printable_figures bs f.2)

-- a line without its end
pub split_line : (l rest : List ℕ) → Printable l → lines (l ++ (10 ∷ rest)) ≡ l ∷ lines rest
split_line [] rest h = refl
split_line (b ∷ bs) rest h = cond-false _ _ _ (ne_eqb b 10 (λ e. omega (arith, e, h.0))) ∙ ap (onto_first b) (split_line bs rest h.1)

pub bared_printable : (l : List ℕ) → Printable l → bared l ≡ l
bared_printable [] h = refl
bared_printable (b ∷ []) h = cond-false _ _ _ (ne_eqb b 13 (λ e. omega (arith, e, h.0)))
bared_printable (b ∷ c ∷ bs) h = ap (λ l. b ∷ l) (bared_printable (c ∷ bs) h.1)
