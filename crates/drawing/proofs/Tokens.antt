-- Where a line is cut into tokens.
use Rattle.std.proofs.Common.{◌≡◌, ℕ, zero, suc, ◌+◌, ◌<◌, Bool, true, false, cond, not, eqb, List, [], ◌∷◌, length, get_or, Some, None, IsUtf8, Option, sym, refl, subst, ⊎_elim, arith}
use Rattle.std.specs.Str.{IsCharBoundary}
use Rattle.std.specs.List.{prefix_len, position_or_len}
use Rattle.std.proofs.lemmas.List.Sums.{prefix_len-le-length, prefix_len_passes, passes_at_first}
use Rattle.std.proofs.lemmas.Bool.{or_cases, eqb-true, and_parts}
use Rattle.std.proofs.lemmas.Str.{IsCharBoundary-after_ascii, IsCharBoundary-start}
use Rattle.drawing.specs.Form.{blank, ends, stops, astray, closes, escapes, also, closing}

-- bytes that pass p are ASCII
abbrev pub Low : (ℕ → Bool) → Type 0
Low p = (b : ℕ) → p b ≡ true → b < 128

pub low_eqb : (m b : ℕ) → m < 128 → eqb b m ≡ true → b < 128
low_eqb m b h e = omega (arith, eqb-true b m e)

pub low_blank : Low blank
low_blank b e = ⊎_elim (λ h. low_eqb 32 b (omega arith) h) (λ h. low_eqb 9 b (omega arith) h) (or_cases _ _ e)

pub low_ends : Low ends
low_ends b e = ⊎_elim (λ h. low_blank b h) (λ h. ⊎_elim (λ k. low_eqb 58 b (omega arith) k) (λ k. low_eqb 35 b (omega arith) k) (or_cases _ _ h)) (or_cases _ _ e)

pub low_stops : Low stops
low_stops b e = ⊎_elim (λ h. low_ends b h) (λ h. ⊎_elim (λ k. low_eqb 34 b (omega arith) k) (λ k. low_eqb 92 b (omega arith) k) (or_cases _ _ h)) (or_cases _ _ e)

-- a text may be cut before the first byte that ends a bare word
pub cut_stop : (bs : List ℕ) (n : ℕ) → n ≡ position_or_len stops bs → IsCharBoundary bs n
cut_stop bs n e = subst (IsCharBoundary bs) (sym e) (prefix_len-le-length (λ b. not (stops b)) bs, λ h wide. absurd (let low : get_or bs (position_or_len stops bs) 0 < 128 = low_stops _ (passes_at_first stops bs 0 h) in omega arith))

-- a text may be cut behind its blanks
pub cut_blank : (bs : List ℕ) (n : ℕ) → IsUtf8 bs → n ≡ prefix_len blank bs → IsCharBoundary bs n
cut_blank bs n u e = subst (IsCharBoundary bs) (sym e) (cut (prefix_len blank bs) refl)
  where
    cut : (k : ℕ) → k ≡ prefix_len blank bs → IsCharBoundary bs (prefix_len blank bs)
    cut zero q = subst (IsCharBoundary bs) q (IsCharBoundary-start bs u)
    cut (suc k) q =
        let last : k < prefix_len blank bs = omega arith in
        let low : get_or bs k 0 < 128 = low_blank _ (prefix_len_passes blank bs k 0 last) in
        let more : k + 1 ≡ prefix_len blank bs = omega arith in
        subst (IsCharBoundary bs) more (IsCharBoundary-after_ascii bs k u (omega (arith, prefix_len-le-length blank bs)) low)

closing_also : (o : Option ℕ) (n : ℕ) → also o ≡ Some n → (k : ℕ) × (o ≡ Some k) × (n ≡ suc k)
closing_also None n e = absurd (let z : ◌≡◌ {A = ℕ} 0 1 = cc in omega arith)
closing_also (Some k) n e = (k, refl, cc)

-- the closing quote is a quote
pub closing_at : (escaped : Bool) (bs : List ℕ) (n : ℕ) → closing escaped bs ≡ Some n → (n < length bs) × (get_or bs n 0 ≡ 34)
closing_at escaped [] n e = absurd (let z : ◌≡◌ {A = ℕ} 0 1 = cc in omega arith)
closing_at escaped (b ∷ bs) n e = at (λ k q. closing_at (escapes escaped b) bs k q) (astray escaped b) (closes escaped b) refl e
  where
    at : ((k : ℕ) → closing (escapes escaped b) bs ≡ Some k → (k < length bs) × (get_or bs k 0 ≡ 34)) → (t u : Bool) → closes escaped b ≡ u → cond t None (cond u (Some 0) (also (closing (escapes escaped b) bs))) ≡ Some n → (n < suc (length bs)) × (get_or (b ∷ bs) n 0 ≡ 34)
    at rec true u q h = absurd (let z : ◌≡◌ {A = ℕ} 0 1 = cc in omega arith)
    at rec false true q h = let z : 0 ≡ n = cc in subst (λ m. (m < suc (length bs)) × (get_or (b ∷ bs) m 0 ≡ 34)) z (omega arith, eqb-true b 34 (and_parts _ _ q).1)
    at rec false false q h =
        let t = closing_also _ n h in
        let on = rec t.0 t.1 in
        subst (λ m. (m < suc (length bs)) × (get_or (b ∷ bs) m 0 ≡ 34)) (sym t.2) (omega (arith, on.0), on.1)

module _ (bs : List ℕ) (n : ℕ) (u : IsUtf8 bs) (is : closing false bs ≡ Some n) where
  pub cut_closing : IsCharBoundary bs n
  cut_closing = let t = closing_at false bs n is in (omega (arith, t.0), λ h wide. absurd (omega (arith, t.1)))

  pub cut_closed : IsCharBoundary bs (n + 1)
  cut_closed = let t = closing_at false bs n is in IsCharBoundary-after_ascii bs n u t.0 (omega (arith, t.1))
