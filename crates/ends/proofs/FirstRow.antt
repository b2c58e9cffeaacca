-- The first of some places, as their words have it.
use Rattle.std.proofs.Common.{◌≡◌, ℕ, ◌<◌, ◌≤◌, List, [], ◌∷◌, ◌++◌, length, get_or, drop, refl, ap, arith}
use Rattle.endless.specs.Games.{Place, row}

pub short_row : (s : List ℕ) (ps : List Place) → s ≡ row ps → length s < 3 → ps ≡ []
short_row s [] e l = refl
short_row s (p ∷ ps) e l = absurd (omega (arith, ap length e))

-- the words begin with a place, and its moves and the other places are in the rest
pub record Begun (s : List ℕ) (ps : List Place) : Type 0 where
  pub place : Place
  pub others : List Place
  pub are : ps ≡ place ∷ others
  pub whose : get_or s 0 0 ≡ place.whose
  pub weight : get_or s 1 0 ≡ place.weight
  pub many : get_or s 2 0 ≡ length place.moves
  pub rest : drop 3 s ≡ place.moves ++ row others

pub begun : (s : List ℕ) (ps : List Place) → s ≡ row ps → 3 ≤ length s → Begun s ps
begun s [] e l = absurd (omega (arith, ap length e))
begun s (p ∷ ps) e l = record {
  place = p;
  others = ps;
  are = refl;
  whose = ap (λ l. get_or l 0 0) e;
  weight = ap (λ l. get_or l 1 0) e;
  many = ap (λ l. get_or l 2 0) e;
  rest = ap (drop 3) e;
}
