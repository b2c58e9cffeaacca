-- Words that are a game with ends, and the words of what is made of it.
use Rattle.std.proofs.Common.{◌≡◌, ℕ, zero, suc, ◌+◌, ◌<◌, ◌≤◌, ◌&&◌, T, ltb, leb, List, [], ◌∷◌, length, sym, refl, ap, subst, arith, le→leb, ltb→lt, lt→ltb, leb→le}
use Rattle.endless.specs.Games.{Place, Game, Reads, below, ok_ps, some_of, pick, row, whose, weight, other}
use Rattle.endless.proofs.Tests.{both, from_both}
use Rattle.endless.proofs.Places.{Fine, ok_parts, ok_from, ok_size, other_below}
use Rattle.ends.specs.Ends.{ok_ends, ReadsEnds, mended, made_from, made}
use Rattle.ends.specs.Mending.{Light}

-- a place that fits in a game with ends of n places
pub record Fits (n : ℕ) (p : Place) : Type 0 where
  pub side : p.whose < 2
  pub light : p.weight < 256
  pub inside : T (below n p.moves)

pub fits_parts : (n : ℕ) (p : Place) (ps : List Place) → T (ok_ends n (p ∷ ps)) → Fits n p × T (ok_ends n ps)
fits_parts n p ps t =
    let a = both (ltb p.whose 2 && ltb p.weight 256) (below n p.moves && ok_ends n ps) t in
    let b = both (ltb p.whose 2) (ltb p.weight 256) a.0 in
    let c = both (below n p.moves) (ok_ends n ps) a.1 in
    (record { side = ltb→lt p.whose 2 b.0; light = ltb→lt p.weight 256 b.1; inside = c.0 }, c.1)

fits_from : (n : ℕ) (p : Place) (ps : List Place) → Fits n p → T (ok_ends n ps) → T (ok_ends n (p ∷ ps))
fits_from n p ps f t = from_both _ _ (from_both _ _ (lt→ltb p.whose 2 f.side) (lt→ltb p.weight 256 f.light)) (from_both _ _ f.inside t)

pub fits_size : (s : List ℕ) (g : Game) → ReadsEnds s g → (1 ≤ length g) × (length g ≤ 16384) × T (ok_ends (length g) g)
fits_size s g r =
    let a = both (leb 1 (length g)) (leb (length g) 16384 && ok_ends (length g) g) r.fine in
    let b = both (leb (length g) 16384) (ok_ends (length g) g) a.1 in
    (leb→le 1 (length g) a.0, leb→le (length g) 16384 b.0, b.1)

-- ---- each place's side and weight

sides_fit : (k : ℕ) (g : Game) (n : ℕ) → T (ok_ends k g) → (whose g n < 2) × (weight g n < 256)
sides_fit k [] n t = (omega arith, omega arith)
sides_fit k (p ∷ ps) zero t = let f = (fits_parts k p ps t).0 in (f.side, f.light)
sides_fit k (p ∷ ps) (suc n) t = sides_fit k ps n (fits_parts k p ps t).1

pub side_fits : {s : List ℕ} {g : Game} → ReadsEnds s g → (n : ℕ) → whose g n < 2
side_fits {s} {g} r n = (sides_fit (length g) g n (fits_size s g r).2).0

pub weight_fits : {s : List ℕ} {g : Game} → ReadsEnds s g → (n : ℕ) → weight g n < 256
weight_fits {s} {g} r n = (sides_fit (length g) g n (fits_size s g r).2).1

-- ---- the made game

pub length_made : (i : ℕ) (g : Game) → length (made_from i g) ≡ length g
length_made i [] = refl
length_made i (p ∷ ps) = ap suc (length_made (suc i) ps)

loop : ℕ → Place → Place
loop i p = record { whose = p.whose; weight = other p.whose; moves = i ∷ [] }

mended_fits : (n i : ℕ) (p : Place) → i < n → Fits n p → Fine n (mended i p)
unfolding loop
mended_fits n i p h f = of p.moves refl
  where
    of : (xs : List ℕ) → p.moves ≡ xs → Fine n (pick (some_of xs) p (loop i p))
    of [] e = record { side = f.side; light = omega (arith, other_below p.whose); moving = omega arith; inside = from_both _ _ (lt→ltb i n h) tt }
    of (x ∷ xs) e = record { side = f.side; light = f.light; moving = omega (arith, ap length e); inside = f.inside }

fits_mended : (n i : ℕ) (p : Place) → p.weight < 256 → Fine n (mended i p) → Fits n p
unfolding loop
fits_mended n i p l f = of p.moves refl f
  where
    of : (xs : List ℕ) → p.moves ≡ xs → Fine n (pick (some_of xs) p (loop i p)) → Fits n p
    of [] e f = record { side = f.side; light = l; inside = subst (λ (ys : List ℕ). T (below n ys)) (sym e) tt }
    of (x ∷ xs) e f = record { side = f.side; light = f.light; inside = f.inside }

made_ok : (n i : ℕ) (g : Game) → i + length g ≤ n → T (ok_ends n g) → T (ok_ps n (made_from i g))
made_ok n i [] h t = tt
made_ok n i (p ∷ ps) h t =
    let f = fits_parts n p ps t in
    ok_from n (mended i p) (made_from (suc i) ps) (mended_fits n i p (omega arith) f.0) (made_ok n (suc i) ps (omega arith) f.1)

ok_made : (n i : ℕ) (g : Game) → Light g → T (ok_ps n (made_from i g)) → T (ok_ends n g)
ok_made n i [] l t = tt
ok_made n i (p ∷ ps) l t =
    let f = ok_parts n (mended i p) (made_from (suc i) ps) t in
    fits_from n p ps (fits_mended n i p l.0 f.0) (ok_made n (suc i) ps l.1 f.1)

pub made_reads : (s : List ℕ) (g : Game) → ReadsEnds s g → Reads (length g ∷ row (made g)) (made g)
made_reads s g r =
    let z = fits_size s g r in
    let e = length_made 0 g in
    record {
      is = ap (λ (k : ℕ). k ∷ row (made g)) (sym e);
      fine = subst (λ (k : ℕ). T (leb 1 k && (leb k 16384 && ok_ps k (made g)))) (sym e) (from_both _ _ (le→leb 1 (length g) z.0) (from_both _ _ (le→leb (length g) 16384 z.1) (made_ok (length g) 0 g (omega arith) z.2)));
    }

-- words that say so many places, none too heavy, are a game with ends where the made words are a game
pub reads_made : (s t : List ℕ) (g : Game) → s ≡ length g ∷ row g → Light g → Reads t (made g) → ReadsEnds s g
reads_made s t g is l r =
    let z = ok_size t (made g) r in
    let e = length_made 0 g in
    record {
      is = is;
      fine = from_both _ _ (le→leb 1 (length g) (omega (arith, z.0))) (from_both _ _ (le→leb (length g) 16384 (omega (arith, z.1))) (ok_made (length g) 0 g l (subst (λ (k : ℕ). T (ok_ps k (made g))) e z.2)));
    }

-- ---- a game without ends

mended_same : (n i : ℕ) (p : Place) → Fine n p → mended i p ≡ p
unfolding loop
mended_same n i p f = of p.moves refl
  where
    of : (xs : List ℕ) → p.moves ≡ xs → pick (some_of xs) p (loop i p) ≡ p
    of [] e = absurd (omega (arith, ap length e, f.moving))
    of (x ∷ xs) e = refl

made_same : (n i : ℕ) (g : Game) → T (ok_ps n g) → made_from i g ≡ g
made_same n i [] t = refl
made_same n i (p ∷ ps) t =
    let f = ok_parts n p ps t in
    let a = mended_same n i p f.0 in
    let b = made_same n (suc i) ps f.1 in
    λ j. a j ∷ b j

ok_is_fine : (n : ℕ) (g : Game) → T (ok_ps n g) → T (ok_ends n g)
ok_is_fine n [] t = tt
ok_is_fine n (p ∷ ps) t = let f = ok_parts n p ps t in fits_from n p ps (record { side = f.0.side; light = f.0.light; inside = f.0.inside }) (ok_is_fine n ps f.1)

pub kept_whole : (s : List ℕ) (g : Game) → Reads s g → ReadsEnds s g × (made g ≡ g)
kept_whole s g r =
    let z = ok_size s g r in
    (record { is = r.is; fine = from_both _ _ (le→leb 1 (length g) z.0) (from_both _ _ (le→leb (length g) 16384 z.1) (ok_is_fine (length g) g z.2)) }, made_same (length g) 0 g z.2)
