-- Tests as facts: of two parts, of one or the other, of an equation.
use Rattle.std.proofs.Common.{◌≡◌, ℕ, Bool, true, false, ◌&&◌, ◌||◌, T, eqb, ◌⊎◌, sym, refl, subst, inl, inr}
use lib.Dec.{eqb_refl}

-- a test that is true, as a type and as an equation
pub T_true : (b : Bool) → T b → b ≡ true
T_true true t = refl
T_true false t = elim t [ ]

pub true_T : (b : Bool) → b ≡ true → T b
true_T b e = subst T (sym e) tt

pub either_way : (b : Bool) → T b ⊎ (T b → ⊥)
either_way true = inl tt
either_way false = inr (λ t. t)

pub both : (a b : Bool) → T (a && b) → T a × T b
both true b t = (tt, t)
both false b t = elim t [ ]

pub from_both : (a b : Bool) → T a → T b → T (a && b)
from_both true b t u = u
from_both false b t u = t

pub from_left : (a b : Bool) → T a → T (a || b)
from_left true b t = tt
from_left false b t = elim t [ ]

pub from_right : (a b : Bool) → T b → T (a || b)
from_right true b t = tt
from_right false b t = t

pub which : (a b : Bool) → T (a || b) → T a ⊎ T b
which true b t = inl tt
which false b t = inr t

pub from_eq : (a b : ℕ) → a ≡ b → T (eqb a b)
from_eq a b e = subst (λ (x : ℕ). T (eqb a x)) e (eqb_refl a)

-- two tests that follow from one another
pub either_both : (a b : Bool) → (T a → T b) → (T b → T a) → a ≡ b
either_both true true to fro = refl
either_both true false to fro = elim (to tt) [ ]
either_both false true to fro = elim (fro tt) [ ]
either_both false false to fro = refl
