-- Names are written and read character by character.
use Rattle.std.proofs.Common.{◌≡◌, ℕ, suc, ◌<◌, ◌≤◌, Bool, true, false, cond, not, eqb, List, [], ◌∷◌, ◌++◌, length, get_or, sym, refl, ap, ◌∙◌, subst, ⊎_elim, append_assoc, append-nil, arith}
use lib.Utf8.{encode}
use Rattle.std.proofs.lemmas.List.{nil_from_length}
use Rattle.std.proofs.lemmas.Bool.{cond-true, cond-false, cases_lt, ne_eqb, and_right, or_from}
use Rattle.std.proofs.lemmas.Str.{encode_ascii, inside_one, length-encode, len_utf8_bounds}
use Rattle.drawing.specs.Form.{escapes, plain}
use Rattle.drawing.specs.Spelling.{special, escaped, marked}

-- no byte is ASCII
abbrev pub High : List ℕ → Type 0
High xs = (k : ℕ) → k < length xs → 128 ≤ get_or xs k 0

pub encode_high : (c : ℕ) → 128 ≤ c → High (encode c)
encode_high c h k l = ⊎_elim (λ low. absurd (omega (arith, inside_one c [] (encode c) k (sym (append-nil (encode c))) l low, low, h))) (λ high. high) (cases_lt (get_or (encode c) k 0) 128)

pub encode_some : (c : ℕ) → 0 < length (encode c)
encode_some c = omega (arith, length-encode c, (len_utf8_bounds c).0)

plain_high : (xs r : List ℕ) → High xs → plain false (xs ++ r) ≡ xs ++ plain false r
plain_high [] r h = refl
plain_high (x ∷ xs) r h =
    let wide : 128 ≤ x = h 0 (omega arith) in
    cond-false _ _ _ (ne_eqb x 92 (λ e. omega arith)) ∙ ap (λ l. x ∷ l) (plain_high xs r (λ k l. h (suc k) (omega arith)))

plain_wide : (e : Bool) (xs r : List ℕ) → 0 < length xs → High xs → plain e (xs ++ r) ≡ xs ++ plain false r
plain_wide e [] r some h = absurd (omega arith)
plain_wide true (x ∷ xs) r some h = ap (λ l. x ∷ l) (plain_high xs r (λ k l. h (suc k) (omega arith)))
plain_wide false (x ∷ xs) r some h = plain_high (x ∷ xs) r h

plain_char : (e : Bool) (c : ℕ) (r : List ℕ) → plain e (encode c ++ r) ≡ cond (escapes e c) (plain true r) (encode c ++ plain false r)
plain_char e c r = ⊎_elim low high (cases_lt c 128)
  where
    low : c < 128 → plain e (encode c ++ r) ≡ cond (escapes e c) (plain true r) (encode c ++ plain false r)
    low h = subst (λ l. plain e (l ++ r) ≡ cond (escapes e c) (plain true r) (l ++ plain false r)) (sym (encode_ascii c h)) refl

    high : 128 ≤ c → plain e (encode c ++ r) ≡ cond (escapes e c) (plain true r) (encode c ++ plain false r)
    high h = plain_wide e (encode c) r (encode_some c) (encode_high c h) ∙ sym (cond-false _ _ _ (and_right (not e) (eqb c 92) (ne_eqb c 92 (λ q. omega arith))))

module _ (whole name rest : List ℕ) (e : Bool) (s : name ++ plain e rest ≡ whole) where
  module _ (c : ℕ) (more : List ℕ) (f : Bool) (took : rest ≡ encode c ++ more) (is : f ≡ escapes e c) where
    pub plain_pushed : (longer : List ℕ) → f ≡ false → longer ≡ name ++ encode c → longer ++ plain f more ≡ whole
    plain_pushed longer n p =
        (λ i. p i ++ plain (n i) more) ∙ append_assoc name (encode c) (plain false more) ∙ ap (λ l. name ++ l) (sym (ap (plain e) took ∙ plain_char e c more ∙ cond-false _ _ _ (sym is ∙ n))) ∙ s

    pub plain_passed : f ≡ true → name ++ plain f more ≡ whole
    plain_passed n = ap (λ t. name ++ plain t more) n ∙ ap (λ l. name ++ l) (sym (ap (plain e) took ∙ plain_char e c more ∙ cond-true _ _ _ (sym is ∙ n))) ∙ s

escaped_high : (xs r : List ℕ) → High xs → escaped (xs ++ r) ≡ xs ++ escaped r
escaped_high [] r h = refl
escaped_high (x ∷ xs) r h =
    let wide : 128 ≤ x = h 0 (omega arith) in
    cond-false _ _ _ (or_from _ _ (ne_eqb x 34 (λ e. omega arith)) (ne_eqb x 92 (λ e. omega arith))) ∙ ap (λ l. x ∷ l) (escaped_high xs r (λ k l. h (suc k) (omega arith)))

escaped_char : (c : ℕ) (r : List ℕ) → escaped (encode c ++ r) ≡ marked c ++ escaped r
escaped_char c r = ⊎_elim low high (cases_lt c 128)
  where
    at : (t : Bool) → cond t (92 ∷ c ∷ escaped r) (c ∷ escaped r) ≡ cond t (92 ∷ c ∷ []) (c ∷ []) ++ escaped r
    at true = refl
    at false = refl

    low : c < 128 → escaped (encode c ++ r) ≡ marked c ++ escaped r
    low h = subst (λ l. escaped (l ++ r) ≡ cond (special c) (92 ∷ l) l ++ escaped r) (sym (encode_ascii c h)) (at (special c))

    high : 128 ≤ c → escaped (encode c ++ r) ≡ marked c ++ escaped r
    high h = escaped_high (encode c) r (encode_high c h) ∙ sym (ap (λ l. l ++ escaped r) (cond-false (special c) (92 ∷ encode c) (encode c) (or_from _ _ (ne_eqb c 34 (λ e. omega arith)) (ne_eqb c 92 (λ e. omega arith)))))

module _ (whole out rest : List ℕ) (s : out ++ escaped rest ≡ whole) where
  pub escaped_pushed : (c : ℕ) (more longer : List ℕ) → rest ≡ encode c ++ more → longer ≡ out ++ marked c → longer ++ escaped more ≡ whole
  escaped_pushed c more longer took p = ap (λ l. l ++ escaped more) p ∙ append_assoc out (marked c) (escaped more) ∙ ap (λ l. out ++ l) (sym (ap escaped took ∙ escaped_char c more)) ∙ s

  pub escaped_over : length rest ≡ 0 → out ≡ whole
  escaped_over z = sym (append-nil out) ∙ ap (λ l. out ++ l) (sym (ap escaped (nil_from_length rest z))) ∙ s
