-- The parts that moves lead into come to a set, and go.
use Rattle.std.proofs.Common.{◌≡◌, ℕ, ◌+◌, ◌<◌, ◌≤◌, Bool, true, false, not, ◌||◌, T, eqb, ◌⊎◌, List, length, get_or, sym, refl, ap, subst, inl, inr, arith}
use Rattle.std.proofs.lemmas.Bool.{cases_eq, eq-eqb, ne_eqb}
use Rattle.endless.specs.Sets.{In}
use Rattle.endless.specs.Bits.{members, size, Inserted, Removed}
use Rattle.endless.proofs.Tests.{both, true_T, from_left, from_right}
use Rattle.quotient.specs.Gathering.{Into, Gathered, Released, Nothing}

-- of the first i moves
pub record Gathering (ms parts set : List ℕ) (i : ℕ) (set' : List ℕ) (count : ℕ) : Type 0 where
  pub came : (k : ℕ) → k < i → In (members set') (get_or parts (get_or ms k 0) 0)
  pub which : (q : ℕ) → In (members set') q → In (members set) q ⊎ Into ms parts q
  pub many : size set' ≡ size set + count
  pub few : count ≤ i
  pub kept : (q : ℕ) → In (members set) q → In (members set') q

pub gathering_none : (ms parts set : List ℕ) → Gathering ms parts set 0 set 0
gathering_none ms parts set = record { came = λ k h. absurd (omega arith); which = λ q x. inl x; many = omega arith; few = omega arith; kept = λ q x. x }

module _ {ms parts set set' : List ℕ} {i count : ℕ} (so_far : Gathering ms parts set i set' count) (more : i < length ms) where
  abbrev this : ℕ
  this = get_or parts (get_or ms i 0) 0

  came_more : (set2 : List ℕ) → ((q : ℕ) → In (members set') q → In (members set2) q) → In (members set2) this → (k : ℕ) → (k < i) ⊎ (k ≡ i) → In (members set2) (get_or parts (get_or ms k 0) 0)
  came_more set2 keeps x k (inl h) = keeps _ (so_far.came k h)
  came_more set2 keeps x k (inr e) = subst (λ (j : ℕ). In (members set2) (get_or parts (get_or ms j 0) 0)) (sym e) x

  before : (k : ℕ) → k < i + 1 → (k ≡ i) ⊎ (k ≡ i → ⊥) → (k < i) ⊎ (k ≡ i)
  before k h (inl e) = inr e
  before k h (inr d) = inl (omega arith)

  -- the part is there already
  pub gathering_had : members set' this ≡ true → Gathering ms parts set (i + 1) set' count
  gathering_had e = record {
    came = λ k h. came_more set' (λ q x. x) (true_T _ e) k (before k h (cases_eq k i));
    which = so_far.which;
    many = so_far.many;
    few = omega (arith, so_far.few);
    kept = so_far.kept;
  }

  -- it comes
  pub gathering_new : {set2 : List ℕ} → members set' this ≡ false → Inserted set' this set2 → Gathering ms parts set (i + 1) set2 (count + 1)
  gathering_new {set2} e ins = record {
    came = λ k h. came_more set2 keeps (subst T (sym (ins.are this)) (from_left (eqb this this) (members set' this) (true_T _ (eq-eqb this this refl)))) k (before k h (cases_eq k i));
    which = λ q x. came q (cases_eq q this) (subst T (ins.are q) x);
    many = omega (arith, so_far.many, ins.grows e);
    few = omega (arith, so_far.few);
    kept = λ q x. keeps q (so_far.kept q x);
  }
    where
      keeps : (q : ℕ) → In (members set') q → In (members set2) q
      keeps q x = subst T (sym (ins.are q)) (from_right (eqb q this) (members set' q) x)

      came : (q : ℕ) → (q ≡ this) ⊎ (q ≡ this → ⊥) → T (eqb q this || members set' q) → In (members set) q ⊎ Into ms parts q
      came q (inl s) x = inr (i, more, sym s)
      came q (inr d) x = so_far.which q (subst (λ (b : Bool). T (b || members set' q)) (ne_eqb q this d) x)

pub gathering_all : {ms parts set set' : List ℕ} {i count : ℕ} → length ms ≤ i → i ≤ length ms → Gathering ms parts set i set' count → Gathered ms parts set set' count
gathering_all {ms} {parts} {set} {set'} {i} {count} done within k = record {
  came = λ q x. subst (λ (p : ℕ). In (members set') p) x.2 (k.came x.0 (omega (arith, x.1)));
  which = k.which;
  many = k.many;
  few = omega (arith, k.few);
}

-- ---- out again

pub record Releasing (ms parts set : List ℕ) (i : ℕ) (set' : List ℕ) : Type 0 where
  pub was : (q : ℕ) → In (members set') q → In (members set) q
  pub gone : (k : ℕ) → k < i → In (members set') (get_or parts (get_or ms k 0) 0) → ⊥

pub releasing_none : (ms parts set : List ℕ) → Releasing ms parts set 0 set
releasing_none ms parts set = record { was = λ q x. x; gone = λ k h. absurd (omega arith) }

pub releasing_more : {ms parts set set' set2 : List ℕ} {i : ℕ} → Releasing ms parts set i set' → Removed set' (get_or parts (get_or ms i 0) 0) set2 → Releasing ms parts set (i + 1) set2
releasing_more {ms} {parts} {set} {set'} {set2} {i} so_far rem = record {
  was = λ q x. so_far.was q (left q x).1;
  gone = λ k h x. gone k h x (cases_eq k i);
}
  where
    left : (q : ℕ) → In (members set2) q → T (not (eqb q (get_or parts (get_or ms i 0) 0))) × T (members set' q)
    left q x = both (not (eqb q (get_or parts (get_or ms i 0) 0))) (members set' q) (subst T (rem.are q) x)

    gone : (k : ℕ) → k < i + 1 → In (members set2) (get_or parts (get_or ms k 0) 0) → (k ≡ i) ⊎ (k ≡ i → ⊥) → ⊥
    gone k h x (inl e) = subst (λ (b : Bool). T (not b)) (eq-eqb (get_or parts (get_or ms k 0) 0) (get_or parts (get_or ms i 0) 0) (ap (λ (j : ℕ). get_or parts (get_or ms j 0) 0) e)) (left _ x).0
    gone k h x (inr d) = so_far.gone k (omega arith) (left _ x).1

pub releasing_all : {ms parts set set' : List ℕ} {i : ℕ} → length ms ≤ i → Releasing ms parts set i set' → Released ms parts set set'
releasing_all {ms} {parts} {set} {set'} {i} done k = record {
  was = k.was;
  gone = λ q x y. k.gone x.0 (omega (arith, x.1)) (subst (λ (p : ℕ). In (members set') p) (sym x.2) y);
}

-- the parts that were gathered into nothing, released
pub nothing_left : {ms parts set set' set2 : List ℕ} {count : ℕ} → Nothing set → Gathered ms parts set set' count → Released ms parts set' set2 → Nothing set2
nothing_left {ms} {parts} {set} none came rel q x = go (came.which q (rel.was q x))
  where
    go : In (members set) q ⊎ Into ms parts q → ⊥
    go (inl y) = none q y
    go (inr y) = rel.gone q y x
