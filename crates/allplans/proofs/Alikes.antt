-- What is left of all pairs relates what is alike.
use Rattle.std.proofs.Common.{◌≡◌, ℕ, ◌<◌, ◌⊎◌, Bool, true, false, ◌&&◌, ◌==◌, List, [], ◌∷◌, length, cond, Option, Some, None, sym, refl, ap, ◌∙◌, subst, inl, inr, eq-or-lt_of_le, arith}
use Rattle.std.specs.Prelude.{slice_get, vec_items}
use Rattle.std.specs.List.{list_any, list_all, filter}
use Rattle.std.proofs.lemmas.Bool.{false≢true, and_parts, and_from, or_cases, or_left, or_right, eqb-true}
use Rattle.std.proofs.lemmas.List.Sums.{length-filter, count_by-le-length}
use Rattle.allplans.specs.declared.game.Place.{Place}
use Rattle.allplans.specs.declared.alike.Pair.{Pair}
use Rattle.allplans.specs.Alike.{related, followed, led, answered, same, both, matched, Coarsest, Alike}

-- what relates more
abbrev Within : (ℕ → ℕ → Bool) → (ℕ → ℕ → Bool) → Type 0
Within R S = (v u : ℕ) → R v u ≡ true → S v u ≡ true

any_more : (p q : ℕ → Bool) → ((x : ℕ) → p x ≡ true → q x ≡ true) → (xs : List ℕ) → list_any p xs ≡ true → list_any q xs ≡ true
any_more p q h [] e = e
any_more p q h (x ∷ xs) e = go (or_cases (p x) (list_any p xs) e) (any_more p q h xs)
  where
    go : (p x ≡ true) ⊎ (list_any p xs ≡ true) → (list_any p xs ≡ true → list_any q xs ≡ true) → list_any q (x ∷ xs) ≡ true
    go (inl a) ih = or_left (q x) (list_any q xs) (h x a)
    go (inr a) ih = or_right (q x) (list_any q xs) (ih a)

all_more : (p q : ℕ → Bool) → ((x : ℕ) → p x ≡ true → q x ≡ true) → (xs : List ℕ) → list_all p xs ≡ true → list_all q xs ≡ true
all_more p q h [] e = e
all_more p q h (x ∷ xs) e =
    let a = and_parts (p x) (list_all p xs) e in
    and_from (q x) (list_all q xs) (h x a.0) (all_more p q h xs a.1)

and_more : (a b d : Bool) → (b ≡ true → d ≡ true) → (a && b) ≡ true → (a && d) ≡ true
and_more true b d h e = h e
and_more false b d h e = e

module _ (R S : ℕ → ℕ → Bool) (h : Within R S) where
  answered_more : (vs us : List ℕ) → answered R vs us ≡ true → answered S vs us ≡ true
  answered_more vs us e =
      let a = and_parts (list_all (followed R us) vs) (list_all (led R vs) us) e in
      and_from (list_all (followed S us) vs) (list_all (led S vs) us)
      (all_more (followed R us) (followed S us) (λ v. any_more (R v) (S v) (h v) us) vs a.0)
      (all_more (led R vs) (led S vs) (λ u. any_more (λ v. R v u) (λ v. S v u) (λ v. h v u) vs) us a.1)

  same_more : (p q : Place) → same R p q ≡ true → same S p q ≡ true
  same_more p q =
      let vs = vec_items p.moves in
      let us = vec_items q.moves in
      and_more (p.whose == q.whose) ((p.weight == q.weight) && answered R vs us) ((p.weight == q.weight) && answered S vs us)
      (and_more (p.weight == q.weight) (answered R vs us) (answered S vs us) (answered_more vs us))

  both_more : (o r : Option Place) → both R o r ≡ true → both S o r ≡ true
  both_more (Some p) (Some q) e = same_more p q e
  both_more (Some p) None e = e
  both_more None r e = e

-- whether a pair is the one of v and u
abbrev at : ℕ → ℕ → Pair → Bool
at v u p = (p.one == v) && (p.other == u)

at_here : (g : ℕ → ℕ → Bool) (p : Pair) (v u : ℕ) → at v u p ≡ true → g p.one p.other ≡ g v u
at_here g p v u e =
    let a = and_parts (p.one == v) (p.other == u) e in
    let x = eqb-true p.one v a.0 in
    let y = eqb-true p.other u a.1 in
    λ i. g (x i) (y i)

-- a pair that passes is left
left : (g : ℕ → ℕ → Bool) (ps : List Pair) (v u : ℕ) → related ps v u ≡ true → g v u ≡ true → related (filter (λ (p : Pair). g p.one p.other) ps) v u ≡ true
left g [] v u h e = h
left g (p ∷ ps) v u h e = go (g p.one p.other) refl (or_cases (at v u p) (related ps v u) h) (λ a. left g ps v u a e)
  where
    rest : List Pair
    rest = filter (λ (p : Pair). g p.one p.other) ps

    go : (b : Bool) → g p.one p.other ≡ b → (at v u p ≡ true) ⊎ (related ps v u ≡ true) → (related ps v u ≡ true → related rest v u ≡ true) → related (cond b (p ∷ rest) rest) v u ≡ true
    go true k (inl a) ih = or_left (at v u p) (related rest v u) a
    go true k (inr a) ih = or_right (at v u p) (related rest v u) (ih a)
    go false k (inl a) ih = absurd (false≢true (sym k ∙ (at_here g p v u a ∙ e)))
    go false k (inr a) ih = ih a

-- where as many are left, all pass
all_pass : (g : ℕ → ℕ → Bool) (ps : List Pair) → length (filter (λ (p : Pair). g p.one p.other) ps) ≡ length ps → (v u : ℕ) → related ps v u ≡ true → g v u ≡ true
all_pass g [] l v u h = absurd (false≢true h)
all_pass g (p ∷ ps) l v u h = go (g p.one p.other) refl l (or_cases (at v u p) (related ps v u) h) (λ m a. all_pass g ps m v u a)
  where
    rest : List Pair
    rest = filter (λ (p : Pair). g p.one p.other) ps

    go : (b : Bool) → g p.one p.other ≡ b → length (cond b (p ∷ rest) rest) ≡ length (p ∷ ps) → (at v u p ≡ true) ⊎ (related ps v u ≡ true) → (length rest ≡ length ps → related ps v u ≡ true → g v u ≡ true) → g v u ≡ true
    go true k m (inl a) ih = sym (at_here g p v u a) ∙ k
    go true k m (inr a) ih = ih (omega (arith, m)) a
    go false k m s ih = absurd (omega (arith, m, length-filter (λ (p : Pair). g p.one p.other) ps, count_by-le-length (λ (p : Pair). g p.one p.other) ps))

-- the pairs of the next round
abbrev pub kept : List Place → List Pair → List Pair
kept ps pairs = filter (λ (p : Pair). matched ps (related pairs) p.one p.other) pairs

pub kept_read : {ps qs : List Place} {pairs others : List Pair} → qs ≡ ps → others ≡ pairs → kept qs others ≡ kept ps pairs
kept_read e f = λ i. kept (e i) (f i)

pub fewer : (ps : List Place) (pairs next : List Pair) → next ≡ kept ps pairs → (length next ≡ length pairs → ⊥) → length next < length pairs
fewer ps pairs next came d =
    let l : length next ≡ length (kept ps pairs) = ap length came in
    let t = λ (p : Pair). matched ps (related pairs) p.one p.other in
    go (eq-or-lt_of_le (omega (arith, l, length-filter t pairs, count_by-le-length t pairs)))
  where
    go : (length next ≡ length pairs) ⊎ (length next < length pairs) → length next < length pairs
    go (inl e) = absurd (d e)
    go (inr h) = h

pub settled : (ps : List Place) (pairs next : List Pair) → next ≡ kept ps pairs → length next ≡ length pairs → Coarsest ps pairs → Alike ps pairs
settled ps pairs next came e c = record {
  match = all_pass (matched ps (related pairs)) pairs (sym (ap length came) ∙ e);
  coarsest = c;
}

pub coarser : (ps : List Place) (pairs next : List Pair) → next ≡ kept ps pairs → Coarsest ps pairs → Coarsest ps next
coarser ps pairs next came c R m v u h =
    subst (λ (q : List Pair). related q v u ≡ true) (sym came)
    (left (matched ps (related pairs)) pairs v u (c R m v u h) (both_more R (related pairs) (c R m) (slice_get ps v) (slice_get ps u) (m v u h)))
