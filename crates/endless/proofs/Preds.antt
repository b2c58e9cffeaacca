-- Building the predecessor lists of a game: the moves to each place counted, and each place entered, the last one first.
use Rattle.std.proofs.Common.{◌≡◌, ℕ, suc, ◌+◌, ◌-◌, ◌*◌, ◌^◌, ◌<◌, ◌≤◌, ◌⊎◌, List, [], ◌∷◌, ◌++◌, length, get_or, take, drop, replicate, sym, refl, ap, ◌∙◌, subst, ap₂, inl, inr, add-one, arith}
use mathlib.Core.Path.{fun_ext}
use Rattle.std.proofs.lemmas.List.{drop_all, get_or-take, get_or-drop, length-append, length-drop, length-take-le, ext_get_or}
use Rattle.std.proofs.lemmas.Bool.{cases_eq}
use Rattle.endless.specs.Games.{Place, Game, Reads, row}
use Rattle.endless.specs.Graph.{moves, times, entering, edges, sources, upto, Listed, Filling, Room, Counts, Entered, Ready}
use Rattle.endless.specs.View.{words_of}
use Rattle.endless.proofs.Places.{ok_size}
use Rattle.endless.proofs.MovesAt.{move_inside}
use Rattle.endless.proofs.Sources.{entering_le, entering_past, entering_drop, entering_drop_le, upto_entering, upto_suc, sources_drop, sources_length}

-- how many words a game takes
row_length : (g : List Place) → length (row g) ≡ 3 * length g + edges g
row_length [] = refl
row_length (p ∷ ps) = omega (arith, length-append p.moves (row ps), row_length ps)

pub words_length : (g : Game) → length (words_of g) ≡ 1 + 3 * length g + edges g
words_length g = omega (arith, row_length g)

-- ---- the moves of the first v places counted

abbrev pub Counting : Game → ℕ → List ℕ → Type 0
Counting g v counts = (m : ℕ) → get_or counts m 0 + entering (drop v g) m ≡ entering g m

pub counting_start : (g : Game) (counts : List ℕ) → ((m : ℕ) → get_or counts m 0 ≡ 0) → Counting g 0 counts
counting_start g counts none m = omega (arith, none m)

module _ (g : Game) (v : ℕ) (counts : List ℕ) (inv : Counting g v counts) (before : v < length g) (targets : List ℕ) (are : targets ≡ moves g v) where
  counted_next : (m : ℕ) → entering (drop v g) m ≡ times m targets + entering (drop (v + 1) g) m
  counted_next m = entering_drop g v m before ∙ ap (λ l. times m l + entering (drop (v + 1) g) m) (sym are)

  pub counting_fits : edges g < 2 ^ 64 → (m : ℕ) → get_or counts m 0 + times m targets < 2 ^ 64
  counting_fits fits m = omega (arith, inv m, counted_next m, entering_le g m)

  pub counting_more : (after : List ℕ) → Counts counts targets after → Counting g (v + 1) after
  counting_more after more m = omega (arith, inv m, counted_next m, more m)

-- ---- counts summed up are the ends of lists in which nothing stands yet

pub ready : (g : Game) (counts ends preds : List ℕ) → length ends ≡ length g + 1 → edges g ≤ length preds → ((m : ℕ) → get_or counts m 0 ≡ entering g m)
    → ((m : ℕ) → m < length ends → get_or ends m 0 ≡ upto (λ j. get_or counts j 0) (suc m)) → Ready g ends preds
ready g counts ends preds long top are sums = record {
  long = long;
  sums = λ m h. sums m (omega arith) ∙ ap (λ f. upto f (suc m)) (fun_ext are);
  top = top;
}

pub sums_fit : (g : Game) (counts : List ℕ) (n : ℕ) → edges g < 2 ^ 64 → ((m : ℕ) → get_or counts m 0 ≡ entering g m) → upto (λ j. get_or counts j 0) n < 2 ^ 64
sums_fit g counts n fits are =
    let e : upto (λ j. get_or counts j 0) n ≡ upto (entering g) n = ap (λ f. upto f n) (fun_ext are) in
    omega (arith, upto_entering g n)

-- ---- the places from v on entered

abbrev pub Listing : Game → ℕ → List ℕ → List ℕ → Type 0
Listing g v ends preds = Filling (entering g) (length g) ends preds (sources v (drop v g))

pub listing_start : {s : List ℕ} (g : Game) (v : ℕ) (ends preds : List ℕ) → Reads s g → v ≡ length g → Ready g ends preds → Listing g v ends preds
listing_start g v ends preds reads is ready = record {
  many = λ m h. omega (arith, ready.sums m (let l : m < length g + 1 = omega arith in l), ap length (nothing m));
  last = ready.sums (length g) (omega arith) ∙ upto_suc (entering g) (length g)
      ∙ (let none : entering g (length g) ≡ 0 = entering_past (length g) g (ok_size _ g reads).2 in omega arith);
  held = λ m k h l. absurd (omega (arith, ap length (nothing m)));
}
  where
    nothing : (m : ℕ) → sources v (drop v g) m ≡ []
    nothing m = ap (λ l. sources v l m) (drop_all v g (omega arith))

module _ (g : Game) (v u : ℕ) (ends preds : List ℕ) (e : v ≡ u + 1) (before : u < length g) (targets : List ℕ) (are : targets ≡ moves g u) where
  pub listing_room : {s : List ℕ} → Reads s g → length ends ≡ length g + 1 → edges g ≤ length preds → Room (entering g) (length g) targets ends preds (sources v (drop v g))
  listing_room reads long top = record {
    long = long;
    top = omega (arith, upto_entering g (length g));
    within = move_inside reads u targets are;
    space = λ m h.
        let same : times m targets ≡ times m (moves g u) = ap (times m) are in
        let rest : entering (drop v g) m ≡ entering (drop (u + 1) g) m = ap (λ n. entering (drop n g) m) e in
        omega (arith, sources_length v (drop v g) m, entering_drop g u m before, entering_drop_le g u m, upto_suc (entering g) m);
  }

  pub listing_more : {s : List ℕ} → Reads s g → length ends ≡ length g + 1 → edges g ≤ length preds → Listing g v ends preds
      → (ends' preds' : List ℕ) → Entered targets u ends preds ends' preds' → Listing g u ends' preds'
  listing_more reads long top inv ends' preds' entered =
      subst (Filling (entering g) (length g) ends' preds')
      (fun_ext (λ m. ap₂ (λ l n. replicate (times m l) u ++ sources n (drop n g) m) are e ∙ sym (sources_drop g u m before)))
      (entered (entering g) (length g) (sources v (drop v g)) inv (listing_room reads long top))

-- ---- the lists

module _ (g : Game) (ends preds : List ℕ) (fill : Filling (entering g) (length g) ends preds (sources 0 g)) (long : length ends ≡ length g + 1) (top : edges g ≤ length preds) where
  offset : (m : ℕ) → m ≤ length g → get_or ends m 0 ≡ upto (entering g) m
  offset m h = go (cases_eq m (length g))
    where
      go : (m ≡ length g) ⊎ (m ≡ length g → ⊥) → get_or ends m 0 ≡ upto (entering g) m
      go (inl e) = ap (λ n. get_or ends n 0) e ∙ fill.last ∙ ap (upto (entering g)) (sym e)
      go (inr d) = omega (arith, fill.many m (let l : m < length g = omega arith in l), sources_length 0 g m, upto_suc (entering g) m)

  next_offset : (m : ℕ) → m < length g → get_or ends (m + 1) 0 ≡ get_or ends m 0 + entering g m
  next_offset m h =
      offset (m + 1) (omega arith) ∙ ap (upto (entering g)) (add-one m) ∙ upto_suc (entering g) m ∙ (omega (arith, offset m (let l : m ≤ length g = omega arith in l)))

  within : (m : ℕ) → m < length g → get_or ends m 0 + entering g m ≤ length preds
  within m h =
      let a = upto_entering g (suc m) in
      omega (arith, offset m (let l : m ≤ length g = omega arith in l), upto_suc (entering g) m)

  listed : Listed g ends preds
  listed = record {
    long = long;
    ordered = λ m h. omega (arith, next_offset m h);
    bound = λ m h. omega (arith, next_offset m h, within m h);
    are = λ m h.
        ap (λ n. take n (drop (get_or ends m 0) preds)) (let c : get_or ends (m + 1) 0 - get_or ends m 0 ≡ entering g m = omega (arith, next_offset m h) in c)
        ∙ ext_get_or 0 (take (entering g m) (drop (get_or ends m 0) preds)) (sources 0 g m)
        (size m h ∙ sym (sources_length 0 g m))
        (λ k l. each m k h (subst (λ n. k < n) (size m h) l));
  }
    where
      size : (m : ℕ) → m < length g → length (take (entering g m) (drop (get_or ends m 0) preds)) ≡ entering g m
      size m h = length-take-le (entering g m) (drop (get_or ends m 0) preds) (omega (arith, length-drop (get_or ends m 0) preds, within m h))

      each : (m k : ℕ) → m < length g → k < entering g m → get_or (take (entering g m) (drop (get_or ends m 0) preds)) k 0 ≡ get_or (sources 0 g m) k 0
      each m k h l =
          get_or-take (entering g m) (drop (get_or ends m 0) preds) k 0 l ∙ get_or-drop (get_or ends m 0) preds k 0
          ∙ fill.held m k h (omega (arith, sources_length 0 g m))

pub listing_all : (g : Game) (v : ℕ) (ends preds : List ℕ) → Listing g v ends preds → v ≡ 0 → length ends ≡ length g + 1 → edges g ≤ length preds → Listed g ends preds
listing_all g v ends preds inv e = listed g ends preds (subst (λ n. Filling (entering g) (length g) ends preds (sources n (drop n g))) e inv)
