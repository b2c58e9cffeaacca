-- The laws of sets of places: who is in, who is out; and of what is so of each place of a list.
use Rattle.std.proofs.Common.{◌≡◌, ℕ, zero, suc, ◌<◌, ◌≤◌, Bool, true, false, cond, not, T, eqb, ◌⊎◌, List, [], ◌∷◌, length, refl, subst, inl, inr, arith, eqb→eq, ltb→lt, lt→ltb, T_not}
use lib.Dec.{not_T}
use Rattle.std.proofs.lemmas.Bool.{cases_eq}
use Rattle.endless.specs.Games.{Game, weight, Among, first, later}
use Rattle.endless.specs.Says.{heaviest}
use Rattle.endless.specs.Sets.{Set, In, Out, Within, minus, union, empty, whole, having, size, Each}
use Rattle.endless.proofs.Tests.{either_way, both, from_both, from_left, from_right, which, from_eq}

pub in_or_out : (U : Set) (n : ℕ) → In U n ⊎ Out U n
in_or_out U n = either_way (U n)

-- one function on a set and another elsewhere
pub merge : {C : Type 0} → Set → (ℕ → C) → (ℕ → C) → ℕ → C
merge X a b n = cond (X n) (a n) (b n)

cond_in : {C : Type 0} (t : Bool) (x y : C) → T t → cond t x y ≡ x
cond_in true x y h = refl
cond_in false x y h = absurd h

cond_out : {C : Type 0} (t : Bool) (x y : C) → (T t → ⊥) → cond t x y ≡ y
cond_out true x y h = absurd (h tt)
cond_out false x y h = refl

pub merge_in : {C : Type 0} (X : Set) (a b : ℕ → C) (n : ℕ) → In X n → merge X a b n ≡ a n
unfolding merge
merge_in X a b n x = cond_in (X n) (a n) (b n) x

pub merge_out : {C : Type 0} (X : Set) (a b : ℕ → C) (n : ℕ) → Out X n → merge X a b n ≡ b n
unfolding merge
merge_out X a b n x = cond_out (X n) (a n) (b n) x

pub minus_in : (U A : Set) (n : ℕ) → In U n → Out A n → In (minus U A) n
unfolding minus
minus_in U A n x y = from_both (U n) (not (A n)) x (not_T (A n) y)

pub minus_within : (U A : Set) (n : ℕ) → In (minus U A) n → In U n
unfolding minus
minus_within U A n x = (both (U n) (not (A n)) x).0

pub minus_out : (U A : Set) (n : ℕ) → In (minus U A) n → Out A n
unfolding minus
minus_out U A n x = T_not (A n) (both (U n) (not (A n)) x).1

pub union_left : (X Y : Set) (n : ℕ) → In X n → In (union X Y) n
unfolding union
union_left X Y n x = from_left (X n) (Y n) x

pub union_right : (X Y : Set) (n : ℕ) → In Y n → In (union X Y) n
unfolding union
union_right X Y n y = from_right (X n) (Y n) y

pub union_which : (X Y : Set) (n : ℕ) → In (union X Y) n → In X n ⊎ In Y n
unfolding union
union_which X Y n z = which (X n) (Y n) z

pub empty_out : (n : ℕ) → Out empty n
unfolding empty
empty_out n x = x

pub whole_in : (g : Game) (n : ℕ) → n < length g → In (whole g) n
unfolding whole
whole_in g n l = lt→ltb n (length g) l

pub whole_place : (g : Game) (n : ℕ) → In (whole g) n → n < length g
unfolding whole
whole_place g n x = ltb→lt n (length g) x

pub having_in : (U : Set) (f : ℕ → ℕ) (k n : ℕ) → In U n → f n ≡ k → In (having U f k) n
unfolding having
having_in U f k n x e = from_both (U n) (eqb (f n) k) x (from_eq (f n) k e)

pub having_within : (U : Set) (f : ℕ → ℕ) (k n : ℕ) → In (having U f k) n → In U n
unfolding having
having_within U f k n x = (both (U n) (eqb (f n) k) x).0

pub having_is : (U : Set) (f : ℕ → ℕ) (k n : ℕ) → In (having U f k) n → f n ≡ k
unfolding having
having_is U f k n x = eqb→eq (f n) k (both (U n) (eqb (f n) k) x).1

size_step : (a b : Bool) (x y : ℕ) → (T a → T b) → x ≤ y → cond a (suc x) x ≤ cond b (suc y) y
size_step true true x y h l = omega arith
size_step true false x y h l = absurd (h tt)
size_step false true x y h l = omega arith
size_step false false x y h l = l

size_jump : (a b : Bool) (x y : ℕ) → (T a → ⊥) → T b → x ≤ y → cond a (suc x) x < cond b (suc y) y
size_jump true b x y h t l = absurd (h tt)
size_jump false true x y h t l = omega arith
size_jump false false x y h t l = absurd t

pub size_within : (V U : Set) (b : ℕ) → Within V U → size V b ≤ size U b
unfolding size
size_within V U zero w = omega arith
size_within V U (suc b) w = size_step (V b) (U b) (size V b) (size U b) (w b) (size_within V U b w)

-- a place less
pub size_less : (V U : Set) (b n : ℕ) → Within V U → n < b → In U n → Out V n → size V b < size U b
unfolding size
size_less V U zero n w l x o = absurd (omega arith)
size_less V U (suc b) n w l x o = go (cases_eq n b) (size_less V U b n w)
  where
    go : (n ≡ b) ⊎ (n ≡ b → ⊥) → (n < b → In U n → Out V n → size V b < size U b) → size V (suc b) < size U (suc b)
    go (inl e) ih = size_jump (V b) (U b) (size V b) (size U b) (subst (λ (m : ℕ). Out V m) e o) (subst (λ (m : ℕ). In U m) e x) (size_within V U b w)
    go (inr e) ih = grow (V b) (U b) (w b) (ih (omega arith) x o)
      where
        grow : (p q : Bool) → (T p → T q) → size V b < size U b → cond p (suc (size V b)) (size V b) < cond q (suc (size U b)) (size U b)
        grow true true h l = omega arith
        grow true false h l = absurd (h tt)
        grow false true h l = omega arith
        grow false false h l = l

pub size_some : (U : Set) (b n : ℕ) → n < b → In U n → 0 < size U b
size_some U b n l x = omega (arith, size_less empty U b n (λ m y. absurd (empty_out m y)) l x (empty_out n))

pub size_most : (U : Set) (b : ℕ) → size U b ≤ b
unfolding size
size_most U zero = omega arith
size_most U (suc b) = go (U b) (size_most U b)
  where
    go : (p : Bool) → size U b ≤ b → cond p (suc (size U b)) (size U b) ≤ suc b
    go true l = omega arith
    go false l = omega arith

pub each_all : {P : ℕ → Type 0} → ((n : ℕ) → P n) → (ns : List ℕ) → Each P ns
each_all h [] = tt
each_all h (n ∷ ns) = (h n, each_all h ns)

pub each_map : {P Q : ℕ → Type 0} → ((n : ℕ) → P n → Q n) → (ns : List ℕ) → Each P ns → Each Q ns
each_map h [] x = tt
each_map h (n ∷ ns) x = (h n x.0, each_map h ns x.1)

pub each_both : (P Q : ℕ → Type 0) (ns : List ℕ) → Each P ns → Each Q ns → Each (λ n. P n × Q n) ns
each_both P Q [] x y = tt
each_both P Q (n ∷ ns) x y = ((x.0, y.0), each_both P Q ns x.1 y.1)

pub each_at : (P : ℕ → Type 0) (m : ℕ) (ns : List ℕ) → Each P ns → Among m ns → P m
each_at P m [] x a = elim a [ ]
each_at P m (n ∷ ns) x first = x.0
each_at P m (n ∷ ns) x (later a) = each_at P m ns x.1 a

-- a list meets a set, or each of its places is out
pub meets : (D : Set) (ns : List ℕ) → ((n : ℕ) × Among n ns × In D n) ⊎ Each (Out D) ns
meets D [] = inr tt
meets D (n ∷ ns) = go (in_or_out D n) (meets D ns)
  where
    go : In D n ⊎ Out D n → ((m : ℕ) × Among m ns × In D m) ⊎ Each (Out D) ns → ((m : ℕ) × Among m (n ∷ ns) × In D m) ⊎ Each (Out D) (n ∷ ns)
    go (inl x) t = inl (n, first, x)
    go (inr x) (inl t) = inl (t.0, later t.1, t.2)
    go (inr x) (inr t) = inr (x, t)

-- what the heaviest weight of a list bounds, and what bounds it
pub among_weighs : (g : Game) (n : ℕ) (ns : List ℕ) → Among n ns → weight g n ≤ heaviest g ns
among_weighs g n [] a = elim a [ ]
among_weighs g n (m ∷ ns) first = omega arith
among_weighs g n (m ∷ ns) (later a) = omega (arith, among_weighs g n ns a)

pub each_weighs : (g : Game) (k : ℕ) (ns : List ℕ) → Each (λ n. weight g n ≤ k) ns → heaviest g ns ≤ k
each_weighs g k [] x = omega arith
each_weighs g k (n ∷ ns) x = omega (arith, x.0, each_weighs g k ns x.1)
