-- How often a place stands among moves, how many moves lead to it, and which places have them.
use Rattle.std.proofs.Common.{◌≡◌, ℕ, zero, suc, ◌+◌, ◌*◌, ◌<◌, ◌≤◌, ◌&&◌, T, eqb, ltb, ◌⊎◌, ◌↔◌, List, [], ◌∷◌, ◌++◌, length, get_or, take, drop, replicate, sym, refl, ap, ◌∙◌, subst, ap₂, inl, inr, add_assoc, zero-add, add-one, arith, ltb→lt}
use Rattle.std.proofs.lemmas.List.{take_more, take-append-drop, length-append, length-replicate}
use Rattle.std.proofs.lemmas.Bool.{cases_eq}
use Rattle.endless.specs.Games.{Place, Game, Reads, Among, first, later, opt, ok_ps, below, some_of, May}
use Rattle.endless.specs.Graph.{moves, times, entering, edges, sources, upto, Preds}
use Rattle.endless.proofs.CountLaws.{one_if, one_itself, one_other, one_le}
use Rattle.endless.proofs.Tests.{both}
use Rattle.endless.proofs.Places.{ok_parts, ok_size}
use Rattle.endless.proofs.Reading.{there}

-- ---- times

pub times_append : (m : ℕ) (xs ys : List ℕ) → times m (xs ++ ys) ≡ times m xs + times m ys
times_append m [] ys = sym (zero-add (times m ys))
times_append m (x ∷ xs) ys = ap (λ n. one_if (eqb x m) + n) (times_append m xs ys) ∙ sym (add_assoc (one_if (eqb x m)) (times m xs) (times m ys))

pub times_more : (m : ℕ) (xs : List ℕ) (k : ℕ) → k < length xs → times m (take (k + 1) xs) ≡ times m (take k xs) + one_if (eqb (get_or xs k 0) m)
times_more m xs k h =
    ap (times m) (take_more xs k 0 h) ∙ times_append m (take k xs) (get_or xs k 0 ∷ []) ∙ (omega arith)

-- what is still to come
pub times_left : (m : ℕ) (xs : List ℕ) (k : ℕ) → times m (take k xs) + times m (drop k xs) ≡ times m xs
times_left m xs k = sym (times_append m (take k xs) (drop k xs)) ∙ ap (times m) (take-append-drop k xs)

pub times_here : (xs : List ℕ) (k : ℕ) → k < length xs → times (get_or xs k 0) (take k xs) < times (get_or xs k 0) xs
times_here xs k h =
    omega (arith, one_itself (get_or xs k 0) (get_or xs k 0) refl, times_more (get_or xs k 0) xs k h, times_left (get_or xs k 0) xs (k + 1))

pub times_le : (m : ℕ) (xs : List ℕ) → times m xs ≤ length xs
times_le m [] = omega arith
times_le m (x ∷ xs) = omega (arith, one_le (eqb x m), times_le m xs)

pub times_replicate : (m n v : ℕ) → times m (replicate n v) ≡ n * one_if (eqb v m)
times_replicate m zero v = omega arith
times_replicate m (suc n) v =
    let rest = times_replicate m n v in
    omega (arith, native.Mathlib.Nat.suc-mul n (one_if (eqb v m)))

-- n itself does not stand among moves below n
pub times_past : (n : ℕ) (xs : List ℕ) → T (below n xs) → times n xs ≡ 0
times_past n [] h = refl
times_past n (x ∷ xs) h =
    let t = both (ltb x n) (below n xs) h in
    let l : x < n = ltb→lt x n t.0 in
    omega (arith, one_other x n (λ e. omega arith), times_past n xs t.1)

-- to stand in a list is to stand there once or more
pub among_times : (m : ℕ) (xs : List ℕ) → Among m xs → 0 < times m xs
among_times m [] a = elim a [ ]
among_times m (x ∷ xs) first = omega (arith, one_itself m m refl)
among_times m (x ∷ xs) (later a) = omega (arith, among_times m xs a)

pub times_among : (m : ℕ) (xs : List ℕ) → 0 < times m xs → Among m xs
times_among m [] h = absurd (omega arith)
times_among m (x ∷ xs) h = go (times_among m xs) (cases_eq x m)
  where
    go : (0 < times m xs → Among m xs) → (x ≡ m) ⊎ (x ≡ m → ⊥) → Among m (x ∷ xs)
    go rest (inl e) = subst (λ y. Among m (y ∷ xs)) (sym e) first
    go rest (inr d) = later (rest (omega (arith, one_other x m d)))

-- ---- sums

pub upto_same : (f h : ℕ → ℕ) (n : ℕ) → ((j : ℕ) → j < n → f j ≡ h j) → upto f n ≡ upto h n
unfolding upto
upto_same f h zero e = refl
upto_same f h (suc n) e = ap₂ (λ a b. a + b) (e n (omega arith)) (upto_same f h n (λ j l. e j (omega arith)))

pub upto_zero : (f : ℕ → ℕ) → upto f 0 ≡ 0
unfolding upto
upto_zero f = refl

pub upto_suc : (f : ℕ → ℕ) (n : ℕ) → upto f (suc n) ≡ f n + upto f n
unfolding upto
upto_suc f n = refl

pub upto_add : (f h : ℕ → ℕ) (n : ℕ) → upto (λ j. f j + h j) n ≡ upto f n + upto h n
unfolding upto
upto_add f h zero = refl
upto_add f h (suc n) = let rest = upto_add f h n in omega arith

pub upto_mono : (f : ℕ → ℕ) (m n : ℕ) → m ≤ n → upto f m ≤ upto f n
unfolding upto
upto_mono f m zero h = let e : m ≡ 0 = omega arith in omega (arith, ap (upto f) e)
upto_mono f m (suc n) h = go (upto_mono f m n) (cases_eq m (suc n))
  where
    go : (m ≤ n → upto f m ≤ upto f n) → (m ≡ suc n) ⊎ (m ≡ suc n → ⊥) → upto f m ≤ upto f (suc n)
    go rest (inl e) = omega (arith, ap (upto f) e)
    go rest (inr d) = let l : upto f m ≤ upto f n = rest (omega arith) in omega arith

upto_none : (x n : ℕ) → n ≤ x → upto (λ j. one_if (eqb x j)) n ≡ 0
unfolding upto
upto_none x zero h = refl
upto_none x (suc n) h =
    omega (arith, one_other x n (λ e. omega arith), upto_none x n (omega arith))

upto_one : (x n : ℕ) → upto (λ j. one_if (eqb x j)) n ≤ 1
unfolding upto
upto_one x zero = omega arith
upto_one x (suc n) = go (upto_one x n) (cases_eq x n)
  where
    go : upto (λ j. one_if (eqb x j)) n ≤ 1 → (x ≡ n) ⊎ (x ≡ n → ⊥) → upto (λ j. one_if (eqb x j)) (suc n) ≤ 1
    go rest (inl e) = omega (arith, upto_none x n (omega arith), one_le (eqb x n))
    go rest (inr d) = omega (arith, one_other x n d)

upto_nothing : (n : ℕ) → upto (λ j. 0) n ≡ 0
unfolding upto
upto_nothing zero = refl
upto_nothing (suc n) = let rest = upto_nothing n in omega arith

pub upto_times : (xs : List ℕ) (n : ℕ) → upto (λ m. times m xs) n ≤ length xs
upto_times [] n = omega (arith, upto_nothing n)
upto_times (x ∷ xs) n = omega (arith, upto_add (λ m. one_if (eqb x m)) (λ m. times m xs) n, upto_one x n, upto_times xs n)

-- ---- moves that lead to a place

pub upto_entering : (g : List Place) (n : ℕ) → upto (entering g) n ≤ edges g
upto_entering [] n = omega (arith, upto_nothing n)
upto_entering (p ∷ ps) n = omega (arith, upto_add (λ m. times m p.moves) (entering ps) n, upto_times p.moves n, upto_entering ps n)

pub entering_le : (g : List Place) (m : ℕ) → entering g m ≤ edges g
entering_le [] m = omega arith
entering_le (p ∷ ps) m = omega (arith, times_le m p.moves, entering_le ps m)

pub entering_past : (n : ℕ) (g : List Place) → T (ok_ps n g) → entering g n ≡ 0
entering_past n [] ok = refl
entering_past n (p ∷ ps) ok =
    let a = both (ltb p.whose 2 && ltb p.weight 256) ((some_of p.moves && below n p.moves) && ok_ps n ps) ok in
    let c = both (some_of p.moves && below n p.moves) (ok_ps n ps) a.1 in
    let d = both (some_of p.moves) (below n p.moves) c.0 in
    let here : times n p.moves ≡ 0 = times_past n p.moves d.1 in
    let rest : entering ps n ≡ 0 = entering_past n ps c.1 in
    omega arith

pub entering_drop : (g : Game) (v m : ℕ) → v < length g → entering (drop v g) m ≡ times m (moves g v) + entering (drop (v + 1) g) m
entering_drop g v m h =
    let t = there g v h in
    ap (λ l. entering l m) t.rest
    ∙ ap₂ (λ xs n. times m xs + entering (drop n g) m) (sym (ap (λ o. opt o [] (λ p. p.moves)) t.is)) (sym (add-one v))

pub entering_drop_le : (g : Game) (v m : ℕ) → entering (drop v g) m ≤ entering g m
entering_drop_le g zero m = omega arith
entering_drop_le [] (suc v) m = omega arith
entering_drop_le (p ∷ ps) (suc v) m = omega (arith, entering_drop_le ps v m)

-- ---- the places that have these moves

pub sources_drop : (g : Game) (v m : ℕ) → v < length g → sources v (drop v g) m ≡ replicate (times m (moves g v)) v ++ sources (v + 1) (drop (v + 1) g) m
sources_drop g v m h =
    let t = there g v h in
    ap (λ l. sources v l m) t.rest
    ∙ ap₂ (λ xs n. replicate (times m xs) v ++ sources n (drop n g) m) (sym (ap (λ o. opt o [] (λ p. p.moves)) t.is)) (sym (add-one v))

pub sources_length : (v : ℕ) (g : List Place) (m : ℕ) → length (sources v g m) ≡ entering g m
sources_length v [] m = refl
sources_length v (p ∷ ps) m =
    length-append (replicate (times m p.moves) v) (sources (suc v) ps m)
    ∙ ap₂ (λ a b. a + b) (length-replicate (times m p.moves) v) (sources_length (suc v) ps m)

-- each stands there as often as it has the move
sources_below : (u v : ℕ) (g : List Place) (m : ℕ) → u < v → times u (sources v g m) ≡ 0
sources_below u v [] m h = refl
sources_below u v (p ∷ ps) m h =
    let front : times u (replicate (times m p.moves) v) ≡ times m p.moves * 0 =
    times_replicate u (times m p.moves) v ∙ ap (λ n. times m p.moves * n) (one_other v u (λ e. omega arith)) in
    let rest : times u (sources (suc v) ps m) ≡ 0 = sources_below u (suc v) ps m (omega arith) in
    omega (arith, times_append u (replicate (times m p.moves) v) (sources (suc v) ps m))

pub sources_times : (u v : ℕ) (g : List Place) (m : ℕ) → times (v + u) (sources v g m) ≡ times m (moves g u)
sources_times u v [] m = refl
sources_times zero v (p ∷ ps) m =
    let front : times (v + 0) (replicate (times m p.moves) v) ≡ times m p.moves * 1 =
    times_replicate (v + 0) (times m p.moves) v ∙ ap (λ n. times m p.moves * n) (one_itself v (v + 0) (omega arith)) in
    let rest : times (v + 0) (sources (suc v) ps m) ≡ 0 = sources_below (v + 0) (suc v) ps m (omega arith) in
    omega (arith, times_append (v + 0) (replicate (times m p.moves) v) (sources (suc v) ps m))
sources_times (suc u) v (p ∷ ps) m =
    let front : times (v + suc u) (replicate (times m p.moves) v) ≡ times m p.moves * 0 =
    times_replicate (v + suc u) (times m p.moves) v ∙ ap (λ n. times m p.moves * n) (one_other v (v + suc u) (λ e. omega arith)) in
    let rest : times (suc v + u) (sources (suc v) ps m) ≡ times m (moves ps u) = sources_times u (suc v) ps m in
    let same : times (v + suc u) (sources (suc v) ps m) ≡ times (suc v + u) (sources (suc v) ps m) =
    ap (λ n. times n (sources (suc v) ps m)) (let e : v + suc u ≡ suc v + u = omega arith in e) in
    omega (arith, times_append (v + suc u) (replicate (times m p.moves) v) (sources (suc v) ps m))

-- v stands in the list of m as often as m among v's moves; so it stands there where it may move to m, and only there
pub preds_times : (g : Game) (m v : ℕ) → times v (sources 0 g m) ≡ times m (moves g v)
preds_times g m v = ap (λ n. times n (sources 0 g m)) (sym (zero-add v)) ∙ sources_times v 0 g m

pub preds_may : (g : Game) (m v : ℕ) → Among v (sources 0 g m) ↔ May g v m
preds_may g m v = (
  λ a. times_among m (moves g v) (omega (arith, preds_times g m v, among_times v (sources 0 g m) a)),
  λ a. times_among v (sources 0 g m) (omega (arith, preds_times g m v, among_times m (moves g v) a)),
)

pub preds_are : (g : Game) (m : ℕ) (r : List ℕ) → r ≡ sources 0 g m → Preds g m r
preds_are g m r e = subst (Preds g m) (sym e) (record { are = refl; often = preds_times g m; may = preds_may g m })

-- each place has a move or more
edges_fine : (n : ℕ) (g : Game) → T (ok_ps n g) → length g ≤ edges g
edges_fine n [] t = omega arith
edges_fine n (p ∷ ps) t = let f = ok_parts n p ps t in omega (arith, f.0.moving, edges_fine n ps f.1)

pub edges_long : {s : List ℕ} {g : Game} → Reads s g → length g ≤ edges g
edges_long {s} {g} r = edges_fine (length g) g (ok_size s g r).2
