-- The last weights of a list and their counts, as a weight comes.
use Rattle.std.proofs.Common.{◌≡◌, ℕ, ◌+◌, ◌-◌, ◌<◌, ◌≤◌, eqb, ◌⊎◌, List, [], ◌∷◌, ◌++◌, length, get_or, take, drop, Some, None, Option, sym, refl, ap, ◌∙◌, subst, inl, inr, append_assoc, arith}
use Rattle.std.proofs.lemmas.List.{length-drop, length-append, drop-drop, drop-append-le, take_more, get_or-set_same, get_or-set_other}
use Rattle.std.proofs.lemmas.Bool.{cases_eq, cases_lt}
use Rattle.endless.specs.Graph.{times}
use Rattle.endless.proofs.CountLaws.{one_if, one_itself, one_other}
use Rattle.endless.proofs.Sources.{times_append, times_among, among_times}
use Rattle.playing.specs.Windows.{more, less, latest, Tells, Light, HeaviestIs, GreatestIs}

-- ---- the heaviest

none_empty : (xs : List ℕ) → ((k : ℕ) → times k xs ≡ 0) → xs ≡ []
none_empty [] h = refl
none_empty (x ∷ xs) h = absurd (omega (arith, h x, one_itself x x refl))

module _ (weights counts : List ℕ) (kinds : length counts ≡ 256) (tells : Tells counts weights) (light : Light weights) where
  pub heaviest_told : (r : Option ℕ) → GreatestIs counts r → HeaviestIs weights r
  heaviest_told None none = none_empty weights (λ k. go k (cases_lt k 256))
    where
      go : (k : ℕ) → (k < 256) ⊎ (256 ≤ k) → times k weights ≡ 0
      go k (inl h) = sym (tells k h) ∙ none k (omega arith)
      go k (inr h) = light k h
  heaviest_told (Some k) top = (
    times_among k weights (omega (arith, tells k (omega (arith, top.0)), top.1)),
    λ m a. go m (among_times m weights a) (cases_lt k m) (cases_lt m 256),
  )
    where
      go : (m : ℕ) → 0 < times m weights → (k < m) ⊎ (m ≤ k) → (m < 256) ⊎ (256 ≤ m) → m ≤ k
      go m some (inr h) l = h
      go m some (inl h) (inl l) = absurd (omega (arith, tells m l, top.2 m h (omega arith)))
      go m some (inl h) (inr l) = absurd (omega (arith, light m l))

-- ---- one weight more, and one less

times_one : (k x : ℕ) → times k (x ∷ []) ≡ one_if (eqb x k)
times_one k x = omega arith

times_push : (k x : ℕ) (xs : List ℕ) → times k (xs ++ x ∷ []) ≡ times k xs + one_if (eqb x k)
times_push k x xs = omega (arith, times_append k xs (x ∷ []), times_one k x)

-- a count of one more at x
pub added : (counts : List ℕ) (x k : ℕ) → x < length counts → get_or (more x counts) k 0 ≡ get_or counts k 0 + one_if (eqb x k)
added counts x k h = go (cases_eq k x)
  where
    go : (k ≡ x) ⊎ (k ≡ x → ⊥) → get_or (more x counts) k 0 ≡ get_or counts k 0 + one_if (eqb x k)
    go (inl e) =
        subst (λ j. get_or (more x counts) j 0 ≡ get_or counts j 0 + one_if (eqb x j)) (sym e)
        (omega (arith, get_or-set_same counts x (get_or counts x 0 + 1) 0 h, one_itself x x refl))
    go (inr d) = omega (arith, get_or-set_other counts x k (get_or counts x 0 + 1) 0 d, one_other x k (λ e. d (sym e)))

-- a count of one less at x
pub taken : (counts : List ℕ) (x k : ℕ) → x < length counts → 0 < get_or counts x 0 → get_or (less x counts) k 0 + one_if (eqb x k) ≡ get_or counts k 0
taken counts x k h some = go (cases_eq k x)
  where
    go : (k ≡ x) ⊎ (k ≡ x → ⊥) → get_or (less x counts) k 0 + one_if (eqb x k) ≡ get_or counts k 0
    go (inl e) =
        subst (λ j. get_or (less x counts) j 0 + one_if (eqb x j) ≡ get_or counts j 0) (sym e)
        (omega (arith, get_or-set_same counts x (get_or counts x 0 - 1) 0 h, one_itself x x refl))
    go (inr d) = omega (arith, get_or-set_other counts x k (get_or counts x 0 - 1) 0 d, one_other x k (λ e. d (sym e)))

module _ (weights : List ℕ) (x : ℕ) (small : x < 256) where
  pub light_push : Light weights → Light (weights ++ x ∷ [])
  light_push light k h = omega (arith, times_push k x weights, light k h, one_other x k (λ e. omega arith))

  pub tells_push : (counts : List ℕ) → length counts ≡ 256 → Tells counts weights → Tells (more x counts) (weights ++ x ∷ [])
  tells_push counts kinds tells k h = omega (arith, times_push k x weights, tells k h, added counts x k (omega arith))

module _ (x : ℕ) (weights : List ℕ) where
  pub light_pop : Light (x ∷ weights) → Light weights
  light_pop light k h = omega (arith, light k h)

  pub some_first : (counts : List ℕ) → x < 256 → Tells counts (x ∷ weights) → 0 < get_or counts x 0
  some_first counts small tells = omega (arith, tells x small, one_itself x x refl)

  pub tells_pop : (counts : List ℕ) → length counts ≡ 256 → x < 256 → Tells counts (x ∷ weights) → Tells (less x counts) weights
  tells_pop counts kinds small tells k h = omega (arith, tells k h, taken counts x k (omega arith) (some_first counts small tells))

-- ---- the last n

-- of what goes before the last n, some may be forgotten
pub latest_drop : (n d : ℕ) (xs : List ℕ) → d ≤ length xs - n → latest n (drop d xs) ≡ latest n xs
latest_drop n d xs h =
    let left : length (drop d xs) ≡ length xs - d = length-drop d xs in
    let e : d + (length (drop d xs) - n) ≡ length xs - n = omega arith in
    drop-drop (length (drop d xs) - n) d xs ∙ ap (λ k. drop k xs) e

-- what comes behind the last n of some comes behind all of them
pub latest-latest_append : (n : ℕ) (xs ys : List ℕ) → latest n (latest n xs ++ ys) ≡ latest n (xs ++ ys)
latest-latest_append n xs ys =
    let long : length (xs ++ ys) ≡ length xs + length ys = length-append xs ys in
    ap (latest n) (sym (drop-append-le (length xs - n) xs ys (omega arith))) ∙ latest_drop n (length xs - n) (xs ++ ys) (omega arith)

-- the next of some weights comes
pub latest_more : (n : ℕ) (xs weights : List ℕ) (i : ℕ) → i < length weights → latest n (latest n (xs ++ take i weights) ++ get_or weights i 0 ∷ []) ≡ latest n (xs ++ take (i + 1) weights)
latest_more n xs weights i h =
    latest-latest_append n (xs ++ take i weights) (get_or weights i 0 ∷ [])
    ∙ ap (latest n) (append_assoc xs (take i weights) (get_or weights i 0 ∷ []) ∙ ap (λ l. xs ++ l) (sym (take_more weights i 0 h)))
