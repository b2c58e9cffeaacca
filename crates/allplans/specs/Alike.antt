-- Places that are alike, by pairs.
use Rattle.std.specs.Prelude.{◌≡◌, ℕ, ◌<◌, Bool, true, false, ◌&&◌, List, vec_items, ◌==◌, Option, Some, None, slice_get}
use Rattle.std.specs.List.{list_any, list_all}
use Rattle.allplans.specs.declared.game.Place.{Place}
use Rattle.allplans.specs.declared.alike.Pair.{Pair}

-- whether v and u are one of the pairs
abbrev pub related : List Pair → ℕ → ℕ → Bool
related pairs v u = list_any (λ p. (p.one == v) && (p.other == u)) pairs

-- whether v is related to one of these
abbrev pub followed : (ℕ → ℕ → Bool) → List ℕ → ℕ → Bool
followed R us v = list_any (λ u. R v u) us

-- whether one of these is related to u
abbrev pub led : (ℕ → ℕ → Bool) → List ℕ → ℕ → Bool
led R vs u = list_any (λ v. R v u) vs

-- each of vs is related to one of us, and to each of us one of vs is
abbrev pub answered : (ℕ → ℕ → Bool) → List ℕ → List ℕ → Bool
answered R vs us = list_all (followed R us) vs && list_all (led R vs) us

-- two places have the same side and weight, and to whatever the one may move, the other may move to what is related to it
abbrev pub same : (ℕ → ℕ → Bool) → Place → Place → Bool
same R p q = (p.whose == q.whose) && ((p.weight == q.weight) && answered R (vec_items p.moves) (vec_items q.moves))

abbrev pub both : (ℕ → ℕ → Bool) → Option Place → Option Place → Bool
both R (Some p) (Some q) = same R p q
both R (Some p) None = false
both R None o = false

-- the same of the places v and u of a game
abbrev pub matched : List Place → (ℕ → ℕ → Bool) → ℕ → ℕ → Bool
matched ps R v u = both R (slice_get ps v) (slice_get ps u)

-- related places are the same as far as R relates them
abbrev pub Matches : List Place → (ℕ → ℕ → Bool) → Type 0
Matches ps R = (v u : ℕ) → R v u ≡ true → matched ps R v u ≡ true

-- all such relations relate no more than these pairs
abbrev pub Coarsest : List Place → List Pair → Type 0
Coarsest ps pairs = (R : ℕ → ℕ → Bool) → Matches ps R → (v u : ℕ) → R v u ≡ true → related pairs v u ≡ true

-- the pairs that are alike: they match, and whatever else does relates no others
pub record Alike (ps : List Place) (pairs : List Pair) : Type 0 where
  pub match : Matches ps (related pairs)
  pub coarsest : Coarsest ps pairs

-- those before, and n pairs with v
pub record AllAdded (before : List Pair) (v n : ℕ) (pairs : List Pair) : Type 0 where
  pub kept : (w u : ℕ) → related before w u ≡ true → related pairs w u ≡ true
  pub added : (u : ℕ) → u < n → related pairs v u ≡ true
