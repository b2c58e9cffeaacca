-- The members of a set written one after the other, the least first.
use Rattle.std.proofs.Common.{◌≡◌, ℕ, ◌+◌, ◌*◌, ◌/◌, ◌%◌, ◌^◌, ◌<◌, ◌≤◌, Bool, true, false, not, ◌&&◌, T, eqb, ◌⊎◌, List, [], ◌∷◌, ◌++◌, length, get_or, take, set, sym, refl, ap, ◌∙◌, subst, inl, inr, arith}
use Rattle.std.proofs.lemmas.Bool.{cases_eq, cases_lt, both_ways, eq-eqb, ne_eqb}
use Rattle.std.proofs.lemmas.List.{get_or_past, get_or-set_other, take_more_set, length-append, append_assoc, append-nil}
use Rattle.std.proofs.Math.Nat.{zero-div}
use Rattle.endless.specs.Games.{Among, first, later}
use Rattle.endless.specs.Sets.{In}
use Rattle.endless.specs.Bits.{digit, members, size, Removed, Least, NoneFrom}
use Rattle.endless.proofs.CountLaws.{none_count, count_none}
use Rattle.endless.proofs.Tests.{both, T_true, true_T}
use Rattle.quotient.specs.Alike.{Ascending}
use Rattle.quotient.specs.Gathering.{Nothing}
use Rattle.quotient.specs.Numbering.{Emptied}

-- ---- a member is a bit of one of the words

no_digit : (k : ℕ) → digit 0 k ≡ false
unfolding digit
no_digit k = ap (λ x. eqb (x % 2) 1) (zero-div (2 ^ k))

past : (l : List ℕ) (i : ℕ) → length l ≤ i / 32 → members l i ≡ false
unfolding members
past l i h = ap (λ w. digit w (i % 32)) (get_or_past l (i / 32) 0 h) ∙ no_digit (i % 32)

pub member_below : (l : List ℕ) (i : ℕ) → members l i ≡ true → i < 32 * length l
member_below l i e = go (cases_lt i (32 * length l))
  where
    go : (i < 32 * length l) ⊎ (32 * length l ≤ i) → i < 32 * length l
    go (inl h) = h
    go (inr h) = absurd (both_ways (members l i) (past l i (omega arith)) e)

-- ---- one more behind a list

pub among_left : (q x : ℕ) (xs : List ℕ) → Among q xs → Among q (xs ++ x ∷ [])
among_left q x [] a = elim a [ ]
among_left q x (y ∷ xs) first = first
among_left q x (y ∷ xs) (later a) = later (among_left q x xs a)

pub among_last : (x : ℕ) (xs : List ℕ) → Among x (xs ++ x ∷ [])
among_last x [] = first
among_last x (y ∷ xs) = later (among_last x xs)

pub among_which : (q x : ℕ) (xs : List ℕ) → Among q (xs ++ x ∷ []) → Among q xs ⊎ (q ≡ x)
among_which q x [] first = inr refl
among_which q x [] (later a) = elim a [ ]
among_which q x (y ∷ xs) first = inl first
among_which q x (y ∷ xs) (later a) = go (among_which q x xs a)
  where
    go : Among q xs ⊎ (q ≡ x) → Among q (y ∷ xs) ⊎ (q ≡ x)
    go (inl b) = inl (later b)
    go (inr e) = inr e

ascending_more : (x : ℕ) (xs : List ℕ) → Ascending xs → ((q : ℕ) → Among q xs → q < x) → Ascending (xs ++ x ∷ [])
ascending_more x [] up low = (λ y a. elim a [ ], tt)
ascending_more x (y ∷ xs) up low = (λ q a. above q (among_which q x xs a), ascending_more x xs up.1 (λ q a. low q (later a)))
  where
    above : (q : ℕ) → Among q xs ⊎ (q ≡ x) → y < q
    above q (inl a) = up.0 q a
    above q (inr e) = omega (arith, low y first)

-- ---- on the way

pub record Emptying (set₀ words : List ℕ) (at : ℕ) (set' words' : List ℕ) (end from : ℕ) : Type 0 where
  pub written : List ℕ
  pub put : take end words' ≡ take at words ++ written
  pub many : length written + size set' ≡ size set₀
  pub end_is : end ≡ at + length written
  pub ascending : Ascending written
  pub low : (q : ℕ) → Among q written → q < from
  pub were : (q : ℕ) → Among q written → In (members set₀) q
  pub are : (q : ℕ) → In (members set₀) q → In (members set') q ⊎ Among q written
  pub kept : (q : ℕ) → In (members set') q → In (members set₀) q × (from ≤ q)
  pub behind : (k : ℕ) → end ≤ k → get_or words' k 0 ≡ get_or words k 0

pub emptying_none : (set₀ words : List ℕ) (at : ℕ) → Emptying set₀ words at set₀ words at 0
emptying_none set₀ words at = record {
  written = [];
  put = sym (append-nil (take at words));
  many = omega arith;
  end_is = omega arith;
  ascending = tt;
  low = λ q a. elim a [ ];
  were = λ q a. elim a [ ];
  are = λ q x. inl x;
  kept = λ q x. (x, omega arith);
  behind = λ k h. refl;
}

module _ {set₀ words : List ℕ} {at : ℕ} {set' words' : List ℕ} {end from m : ℕ} (so_far : Emptying set₀ words at set' words' end from) (least : Least (members set') from m) where
  -- there is room for one more
  pub emptying_room : {set2 : List ℕ} → Removed set' m set2 → at + size set₀ ≤ length words' → end < length words'
  emptying_room rem h = omega (arith, so_far.many, so_far.end_is, rem.shrinks least.is)

  pub emptying_more : {set2 : List ℕ} → Removed set' m set2 → end < length words' → Emptying set₀ words at set2 (set words' end m) (end + 1) (m + 1)
  emptying_more {set2} rem room = record {
    written = so_far.written ++ m ∷ [];
    put = take_more_set words' end m room ∙ ap (λ (l : List ℕ). l ++ m ∷ []) so_far.put ∙ append_assoc (take at words) so_far.written (m ∷ []);
    many = omega (arith, long, so_far.many, rem.shrinks least.is);
    end_is = omega (arith, long, so_far.end_is);
    ascending = ascending_more m so_far.written so_far.ascending (λ q a. omega (arith, so_far.low q a, least.after));
    low = λ q a. low q (among_which q m so_far.written a);
    were = λ q a. were q (among_which q m so_far.written a);
    are = λ q x. are q (so_far.are q x) (cases_eq q m);
    kept = λ q x. kept q (both (not (eqb q m)) (members set' q) (subst T (rem.are q) x)) (cases_eq q m) (cases_lt q m);
    behind = λ k h. get_or-set_other words' end k m 0 (λ e. omega arith) ∙ so_far.behind k (omega arith);
  }
    where
      long : length (so_far.written ++ m ∷ []) ≡ length so_far.written + 1
      long = length-append so_far.written (m ∷ [])

      low : (q : ℕ) → Among q so_far.written ⊎ (q ≡ m) → q < m + 1
      low q (inl a) = omega (arith, so_far.low q a, least.after)
      low q (inr e) = omega arith

      were : (q : ℕ) → Among q so_far.written ⊎ (q ≡ m) → In (members set₀) q
      were q (inl a) = so_far.were q a
      were q (inr e) = (so_far.kept q (true_T _ (ap (members set') e ∙ least.is))).0

      are : (q : ℕ) → In (members set') q ⊎ Among q so_far.written → (q ≡ m) ⊎ (q ≡ m → ⊥) → In (members set2) q ⊎ Among q (so_far.written ++ m ∷ [])
      are q (inr a) d = inr (among_left q m so_far.written a)
      are q (inl x) (inl e) = inr (subst (λ (k : ℕ). Among k (so_far.written ++ m ∷ [])) (sym e) (among_last m so_far.written))
      are q (inl x) (inr d) = inl (subst T (sym (rem.are q)) (subst (λ (b : Bool). T (not b && members set' q)) (sym (ne_eqb q m d)) x))

      kept : (q : ℕ) → T (not (eqb q m)) × T (members set' q) → (q ≡ m) ⊎ (q ≡ m → ⊥) → (q < m) ⊎ (m ≤ q) → In (members set₀) q × (m + 1 ≤ q)
      kept q x (inl e) c = absurd (subst (λ (b : Bool). T (not b)) (eq-eqb q m e) x.0)
      kept q x (inr d) (inl h) = absurd (both_ways (members set' q) (least.none q (so_far.kept q x.1).1 h) (T_true _ x.1))
      kept q x (inr d) (inr h) = ((so_far.kept q x.1).0, omega arith)

-- a set without members has the size 0
pub nothing_size : (l : List ℕ) → ((q : ℕ) → members l q ≡ false) → size l ≡ 0
unfolding size
nothing_size l h = none_count (members l) (32 * length l) (λ j x. h j)

pub empty_size : (l : List ℕ) → Nothing l → size l ≡ 0
empty_size l none = nothing_size l (λ q. go q (members l q) refl)
  where
    go : (q : ℕ) (b : Bool) → members l q ≡ b → members l q ≡ false
    go q false e = e
    go q true e = absurd (none q (true_T _ e))

pub emptying_all : {set₀ words : List ℕ} {at : ℕ} {set' words' : List ℕ} {end from : ℕ} → NoneFrom (members set') from → Emptying set₀ words at set' words' end from → Emptied set₀ words at set' words' end
emptying_all {set' = set'} none k = record {
  written = k.written;
  put = k.put;
  many = omega (arith, k.many, none_left);
  end_is = omega (arith, k.end_is, k.many, none_left);
  ascending = k.ascending;
  were = k.were;
  are = λ q x. go q (k.are q x);
  empty = empty;
  behind = k.behind;
}
  where
    empty : (q : ℕ) → In (members set') q → ⊥
    empty q x = both_ways (members set' q) (none q (k.kept q x).1) (T_true _ x)

    none_left : size set' ≡ 0
    none_left = empty_size set' (λ q x. both_ways (members set' q) (none q (k.kept q x).1) (T_true _ x))

    go : (q : ℕ) → In (members set') q ⊎ Among q k.written → Among q k.written
    go q (inl x) = absurd (both_ways (members set' q) (none q (k.kept q x).1) (T_true _ x))
    go q (inr a) = a

pub size_nothing : (l : List ℕ) → size l ≡ 0 → Nothing l
unfolding size
size_nothing l e q x = let is = T_true (members l q) x in both_ways (members l q) (count_none (members l) (32 * length l) e q (member_below l q is)) is
