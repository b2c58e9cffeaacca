-- That every play has a heaviest weight, with a later moment named for each: exactly as strong as the double-negation shift for tests.
use Rattle.std.proofs.Common.{◌≡◌, ℕ, zero, suc, ◌≤◌, Bool, true, false, ◌&&◌, T, eqb, leb, [], ◌∷◌, sym, refl, ◌∙◌, arith, le→leb, eqb→eq, leb→le}
use Rattle.endless.specs.Games.{Game, Reads, weight, first, later, May, Play, Heaviest}
use Rattle.endless.specs.Says.{SearchesEnd, SomeHeaviestFound, SomeHeaviestNamed, Shifts, NamedAsShift}
use Rattle.endless.proofs.Tests.{both, from_both, from_eq}
use Rattle.endless.proofs.Heaviest.{some_heaviest}

-- two places with all moves, of weight 0 and 1: any row of tests is a play
two : Game
two = record { whose = 0; weight = 0; moves = 0 ∷ 1 ∷ [] } ∷ record { whose = 0; weight = 1; moves = 0 ∷ 1 ∷ [] } ∷ []

reads : Reads (2 ∷ 0 ∷ 0 ∷ 2 ∷ 0 ∷ 1 ∷ 0 ∷ 1 ∷ 2 ∷ 0 ∷ 1 ∷ []) two
unfolding two
reads = record { is = refl; fine = tt }

abbrev at : Bool → ℕ
at false = 0
at true = 1

may : (a b : Bool) → May two (at a) (at b)
unfolding two
may false false = first
may false true = later first
may true false = first
may true true = later first

weighs : (a : Bool) → weight two (at a) ≡ at a
unfolding two
weighs false = refl
weighs true = refl

light : (a : Bool) → T a → at a ≤ 0 → ⊥
light false t l = t
light true t l = omega arith

heavy : (a : Bool) (k : ℕ) → at a ≡ suc k → T a
heavy false k e = absurd (omega (arith, e))
heavy true k e = tt

to_shift : SomeHeaviestNamed → Shifts
to_shift named P often never = named _ two f reads (λ i. may (P i) (P (suc i))) none
  where
    f : Play
    f i = at (P i)

    none : (k : ℕ) → Heaviest two f k → ⊥
    none zero h = often h.from (λ j l t. light (P j) t (omega (arith, weighs (P j), h.none_heavier j l)))
    none (suc k) h = never (λ i. let t = h.again i in (t.0, t.1, heavy (P t.0) k (sym (weighs (P t.0)) ∙ t.2)))

from_shift : Shifts → SomeHeaviestNamed
from_shift shifts s g f r p none = some_heaviest s g f r p (λ k h. shifts (λ j. eqb (weight g (f j)) k) (λ i gone. h.never_last i (λ j l e. gone j l (from_eq (weight g (f j)) k e)))
    (λ again. none k (record { from = h.from; none_heavier = h.none_heavier; again = λ i. let t = again i in (t.0, t.1, eqb→eq (weight g (f t.0)) k t.2) })))

pub named_as_shift : NamedAsShift
named_as_shift = (to_shift, from_shift)

-- a search that cannot fail finds the later moment
searches_shift : SearchesEnd → Shifts
searches_shift ends P often never = never (λ i.
    let t = ends (λ j. leb i j && P j) (λ none. often i (λ j l p. none j (from_both (leb i j) (P j) (le→leb i j l) p))) in
    let c = both (leb i t.0) (P t.0) t.1 in
    (t.0, leb→le i t.0 c.0, c.1))

pub some_heaviest_found : SomeHeaviestFound
some_heaviest_found ends = from_shift (searches_shift ends)
