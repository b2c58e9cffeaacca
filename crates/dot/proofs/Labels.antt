-- Labels are written character by character.
use Rattle.std.proofs.Common.{◌≡◌, ℕ, suc, ◌<◌, ◌≤◌, eqb, List, [], ◌∷◌, ◌++◌, length, codes, sym, refl, ap, ◌∙◌, subst, ⊎_elim, append_assoc, append-nil, arith}
use lib.Utf8.{encode}
use Rattle.std.proofs.lemmas.List.{nil_from_length}
use Rattle.std.proofs.lemmas.Bool.{cond-false, cases_lt, ne_eqb}
use Rattle.std.proofs.lemmas.Str.{encode_ascii}
use Rattle.drawing.proofs.Spells.{High, encode_high}
use Rattle.dot.specs.Labels.{marks, escaped, marked}

-- what is not ASCII is written as it is
marks_high : (b : ℕ) (rest : List ℕ) → 128 ≤ b → marks b rest ≡ rest
marks_high b rest h =
    cond-false (eqb b 34) _ _ (ne_eqb b 34 (λ e. omega arith))
    ∙ cond-false (eqb b 92) _ _ (ne_eqb b 92 (λ e. omega arith))
    ∙ cond-false (eqb b 38) (codes "&amp;") rest (ne_eqb b 38 (λ e. omega arith))

escaped_high : (xs r : List ℕ) → High xs → escaped (xs ++ r) ≡ xs ++ escaped r
escaped_high [] r h = refl
escaped_high (x ∷ xs) r h = (λ i. marks_high x (x ∷ []) (h 0 (omega arith)) i ++ escaped_high xs r (λ k l. h (suc k) (omega arith)) i)

escaped_char : (c : ℕ) (r : List ℕ) → escaped (encode c ++ r) ≡ marked c ++ escaped r
escaped_char c r = ⊎_elim low high (cases_lt c 128)
  where
    low : c < 128 → escaped (encode c ++ r) ≡ marked c ++ escaped r
    low h = subst (λ l. escaped (l ++ r) ≡ marks c l ++ escaped r) (sym (encode_ascii c h)) refl

    high : 128 ≤ c → escaped (encode c ++ r) ≡ marked c ++ escaped r
    high h = escaped_high (encode c) r (encode_high c h) ∙ sym (ap (λ l. l ++ escaped r) (marks_high c (encode c) h))

module _ (whole out rest : List ℕ) (s : out ++ escaped rest ≡ whole) where
  pub escaped_pushed : (c : ℕ) (more longer : List ℕ) → rest ≡ encode c ++ more → longer ≡ out ++ marked c → longer ++ escaped more ≡ whole
  escaped_pushed c more longer took p = ap (λ l. l ++ escaped more) p ∙ append_assoc out (marked c) (escaped more) ∙ ap (λ l. out ++ l) (sym (ap escaped took ∙ escaped_char c more)) ∙ s

  pub escaped_over : length rest ≡ 0 → out ≡ whole
  escaped_over z = sym (append-nil out) ∙ ap (λ l. out ++ l) (sym (ap escaped (nil_from_length rest z))) ∙ s
