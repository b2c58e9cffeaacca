-- The members of a set as a list, as its iterator gives them; the heaviest of a list.
use Rattle.std.proofs.Common.{◌≡◌, ℕ, zero, suc, ◌+◌, ◌-◌, ◌*◌, ◌^◌, ◌<◌, ◌≤◌, Bool, true, false, cond, not, ◌&&◌, eqb, ◌⊎◌, List, [], ◌∷◌, Option, None, max, map, fold, option_map, unwrap_or, length, get_or, sym, refl, ap, ◌∙◌, ap₂, inl, inr, arith}
use lib.Bits.{bit_and}
use lib.Count.{count_trailing_zeros}
use Rattle.std.proofs.lemmas.Bool.{cases_eq, cases_lt, both_ways, eq-eqb, ne_eqb}
use Rattle.std.proofs.lemmas.Iterator.{YieldsList}
use Rattle.std.proofs.lemmas.Iterator.Consumers.{YieldsList-from_first}
use Rattle.std.specs.Iterator.{YieldsFirst}
use Rattle.std.specs.List.{reduce}
use Rattle.std.proofs.lemmas.Iterator.Adapters.{option_map_id}
use Rattle.endless.specs.Games.{Game, weight}
use Rattle.endless.specs.Levels.{HeaviestOf}
use Rattle.endless.specs.Bits.{members, Least}
use Rattle.endless.specs.Listed.{listed, listed_from, members_left}
use Rattle.endless.specs.Pulling.{Passed}
use Rattle.endless.specs.Sets.{Set}
use Rattle.endless.specs.Parts.{Told, Part}
use Rattle.endless.specs.declared.bits.Members.{Members}
use Rattle.endless.proofs.Tests.{T_true, true_T}
use Rattle.endless.proofs.SetLaws.{members_below}
use Rattle.endless.proofs.Scans.{members_cons, members_head}
use Rattle.endless.proofs.BitLaws.{digit_none, digit_cleared, trailing_below, trailing_at, trailing_lt}

-- ---- the places of a stretch that are in a set

-- of no places
listed_zero : (f : ℕ → Bool) (i : ℕ) → listed f i 0 ≡ []
unfolding listed
listed_zero f i = refl

-- two sets that agree from i on
listed_same : (f h : ℕ → Bool) (i n : ℕ) → ((j : ℕ) → i ≤ j → f j ≡ h j) → listed f i n ≡ listed h i n
unfolding listed
listed_same f h i zero same = refl
listed_same f h i (suc n) same = rw (same i (omega arith), listed_same f h (suc i) n (λ j l. same j (omega arith))) refl

-- where none stands from i up to m
listed_past : (f : ℕ → Bool) (i n m k : ℕ) → i ≤ m → i + n ≡ m + k → ((j : ℕ) → i ≤ j → j < m → f j ≡ false) → listed f i n ≡ listed f m k
unfolding listed
listed_past f i zero m k l e none = let here : m ≡ i = omega arith in let end : k ≡ 0 = omega arith in rw (here, end) refl
listed_past f i (suc n) m k l e none = go (cases_lt i m) (λ h. listed_past f (suc i) n m k (omega arith) (omega arith) (λ j a. none j (omega arith)))
  where
    go : (i < m) ⊎ (m ≤ i) → (i < m → listed f (suc i) n ≡ listed f m k) → listed f i (suc n) ≡ listed f m k
    go (inl h) later = rw (none i (omega arith) h) (later h)
    go (inr h) later = let here : m ≡ i = omega arith in let rest : k ≡ suc n = omega arith in rw (here, rest) refl

-- the least of a set stands first, and then the set without it
module _ (f h : ℕ → Bool) (i n m k : ℕ) (least : Least f i m) (e : i + n ≡ m + suc k) (without : (j : ℕ) → i ≤ j → h j ≡ (not (eqb j m) && f j)) where
  gone : (j : ℕ) → i ≤ j → j < suc m → (j ≡ m) ⊎ (j ≡ m → ⊥) → h j ≡ false
  gone j a l (inl s) = without j a ∙ ap (λ b. not b && f j) (eq-eqb j m s)
  gone j a l (inr d) = without j a ∙ ap₂ (λ b c. not b && c) (ne_eqb j m d) (least.none j a (omega arith))

  same : (j : ℕ) → suc m ≤ j → f j ≡ h j
  same j l = sym (without j (omega (arith, least.after)) ∙ ap (λ b. not b && f j) (ne_eqb j m (omega arith)))

  first_behind : listed f m (suc k) ≡ m ∷ listed f (suc m) k
  unfolding listed
  first_behind = rw least.is refl

  listed_least : listed f i n ≡ m ∷ listed h i n
  listed_least =
      listed_past f i n m (suc k) least.after e least.none ∙ first_behind
      ∙ ap (λ l. m ∷ l) (listed_same f h (suc m) k same ∙ sym (listed_past h i n (suc m) k (omega (arith, least.after)) (omega arith) (λ j a l. gone j a l (cases_eq j m))))

-- each member stands in the list, and nothing else does
listed_has : (f : ℕ → Bool) (i n j : ℕ) → i ≤ j → j < i + n → f j ≡ true → Passed (listed f i n) (length (listed f i n)) j
unfolding listed
listed_has f i zero j h l e = absurd (omega arith)
listed_has f i (suc n) j h l e = go (f i) refl (cases_eq i j) (λ d. listed_has f (suc i) n j (omega arith) (omega arith) e)
  where
    go : (b : Bool) → f i ≡ b → (i ≡ j) ⊎ (i ≡ j → ⊥) → ((i ≡ j → ⊥) → Passed (listed f (suc i) n) (length (listed f (suc i) n)) j) → Passed (cond b (i ∷ listed f (suc i) n) (listed f (suc i) n)) (length (cond b (i ∷ listed f (suc i) n) (listed f (suc i) n))) j
    go true is (inl s) later = (0, omega arith, s)
    go true is (inr d) later = let t = later d in (suc t.0, omega (arith, t.1), t.2)
    go false is (inl s) later = absurd (both_ways (f i) is (ap f s ∙ e))
    go false is (inr d) later = later d

listed_is : (f : ℕ → Bool) (i n k : ℕ) → k < length (listed f i n) → f (get_or (listed f i n) k 0) ≡ true
unfolding listed
listed_is f i zero k h = absurd (omega arith)
listed_is f i (suc n) k h = go (f i) refl (listed_is f (suc i) n) k h
  where
    go : (b : Bool) → f i ≡ b → ((k : ℕ) → k < length (listed f (suc i) n) → f (get_or (listed f (suc i) n) k 0) ≡ true) → (k : ℕ) → k < length (cond b (i ∷ listed f (suc i) n) (listed f (suc i) n)) → f (get_or (cond b (i ∷ listed f (suc i) n) (listed f (suc i) n)) k 0) ≡ true
    go true is later zero h = is
    go true is later (suc k) h = later k (omega arith)
    go false is later k h = later k h

-- ---- all members

-- the list of all members tells the set
abbrev pub all_members : List ℕ → List ℕ
all_members l = listed_from 0 l

pub members_told : (l : List ℕ) → Told (all_members l) (members l)
unfolding listed_from
members_told l n = (
  λ x. listed_has (λ j. members l (j - 0)) 0 (32 * length l) n (omega arith) (omega (arith, members_below l n (T_true _ x))) (ap (members l) (let t : n - 0 ≡ n = omega arith in t) ∙ T_true _ x),
  λ p. true_T _ (ap (members l) (let t : n ≡ get_or (all_members l) p.0 0 - 0 = omega (arith, p.2) in t) ∙ listed_is (λ j. members l (j - 0)) 0 (32 * length l) p.0 p.1),
)

-- and so a part of it that is told by no list of its own
pub told_part : (l : List ℕ) (R : Set) {list : Option (List ℕ)} → Part l list R → list ≡ None → Told (all_members l) R
told_part l R part none n = (λ x. (members_told l n).0 (part.within n x), λ p. part.whole none n ((members_told l n).1 p))

-- ---- the iterator of a set

-- what it gives
pub yields_members : {s : Members} (l : List ℕ) → members_left s ≡ listed_from 0 l → YieldsList (YieldsFirst members_left) (λ n. n) s (all_members l)
yields_members l left = YieldsList-from_first (λ n. n) members_left (all_members l) left

-- a word that holds none is passed over
none_here : (i : ℕ) (ws : List ℕ) (j : ℕ) → i ≤ j → j < i + 32 → members (0 ∷ ws) (j - i) ≡ false
none_here i ws j a h = members_head 0 ws (j - i) (omega arith) ∙ digit_none (j - i)

pub left_behind : (i : ℕ) {w v : ℕ} {l ws : List ℕ} → w ≡ 0 → l ≡ v ∷ ws → listed_from i (w ∷ l) ≡ listed_from (i + 32) (v ∷ ws)
unfolding listed_from
left_behind i {v = v} {ws = ws} none more =
    rw (none, more)
    (listed_past (λ n. members (0 ∷ v ∷ ws) (n - i)) i (32 * length (0 ∷ v ∷ ws)) (i + 32) (32 * length (v ∷ ws)) (omega arith) (omega arith) (none_here i (v ∷ ws))
    ∙ listed_same (λ n. members (0 ∷ v ∷ ws) (n - i)) (λ n. members (v ∷ ws) (n - (i + 32))) (i + 32) (32 * length (v ∷ ws))
    (λ j a. ap (members (0 ∷ v ∷ ws)) (let t : j - i ≡ 32 + (j - (i + 32)) = omega arith in t) ∙ members_cons 0 (v ∷ ws) (j - (i + 32))))

-- behind the last word there is none
pub end_left : (i : ℕ) {w : ℕ} (l : List ℕ) → w ≡ 0 → length l ≡ 0 → listed_from i (w ∷ l) ≡ []
unfolding listed_from
end_left i [] none end = rw none (listed_past (λ n. members (0 ∷ []) (n - i)) i 32 (i + 32) 0 (omega arith) (omega arith) (none_here i []) ∙ listed_zero (λ n. members (0 ∷ []) (n - i)) (i + 32))
end_left i (x ∷ l) none end = absurd (omega arith)

pub none_left : (i : ℕ) (l : List ℕ) → length l ≡ 0 → listed_from i l ≡ []
unfolding listed_from
none_left i [] end = listed_zero (λ n. members [] (n - i)) i
none_left i (x ∷ l) end = absurd (omega arith)

-- and of any other the lowest bit is the first that is left
module _ (i w : ℕ) (ws : List ℕ) (fits : w < 2 ^ 32) (some : w ≡ 0 → ⊥) where
  abbrev lowest : ℕ
  lowest = count_trailing_zeros 32 w

  lowest_lt : lowest < 32
  lowest_lt = trailing_lt 32 w fits (omega arith)

  without : (j : ℕ) → (j < 32) ⊎ (32 ≤ j) → members (bit_and w (w - 1) ∷ ws) j ≡ (not (eqb j lowest) && members (w ∷ ws) j)
  without j (inl h) =
      members_head (bit_and w (w - 1)) ws j h ∙ digit_cleared w lowest j (trailing_at 32 w lowest_lt) (trailing_below 32 w)
      ∙ ap (λ b. not (eqb j lowest) && b) (sym (members_head w ws j h))
  without j (inr h) =
      let behind : j ≡ 32 + (j - 32) = omega arith in
      ap (members (bit_and w (w - 1) ∷ ws)) behind ∙ members_cons (bit_and w (w - 1)) ws (j - 32) ∙ sym (ap (members (w ∷ ws)) behind ∙ members_cons w ws (j - 32))
      ∙ ap (λ b. not b && members (w ∷ ws) j) (sym (ne_eqb j lowest (let d : j ≡ lowest → ⊥ = omega (arith, lowest_lt) in d)))

  shifted : (j : ℕ) → i ≤ j → (j ≡ i + lowest) ⊎ (j ≡ i + lowest → ⊥) → eqb (j - i) lowest ≡ eqb j (i + lowest)
  shifted j a (inl s) = eq-eqb (j - i) lowest (omega arith) ∙ sym (eq-eqb j (i + lowest) s)
  shifted j a (inr d) = ne_eqb (j - i) lowest (omega arith) ∙ sym (ne_eqb j (i + lowest) d)

  least : Least (λ n. members (w ∷ ws) (n - i)) i (i + lowest)
  least = record {
    after = omega arith;
    is = ap (members (w ∷ ws)) (let t : i + lowest - i ≡ lowest = omega arith in t) ∙ members_head w ws lowest lowest_lt ∙ trailing_at 32 w lowest_lt;
    none = λ j a h. members_head w ws (j - i) (omega (arith, lowest_lt)) ∙ trailing_below 32 w (j - i) (omega arith);
  }

  pub lowest_left : listed_from i (w ∷ ws) ≡ (i + count_trailing_zeros 32 w) ∷ listed_from i (bit_and w (w - 1) ∷ ws)
  unfolding listed_from
  lowest_left = listed_least (λ n. members (w ∷ ws) (n - i)) (λ n. members (bit_and w (w - 1) ∷ ws) (n - i)) i (32 * length (w ∷ ws)) (i + lowest) (32 * length (w ∷ ws) - (lowest + 1)) least (omega (arith, lowest_lt))
      (λ j a. without (j - i) (cases_lt (j - i) 32) ∙ ap (λ b. not b && members (w ∷ ws) (j - i)) (shifted j a (cases_eq j (i + lowest))))

-- ---- the heaviest

-- the greatest of a number and the weights of a list of places
record Greatest (g : Game) (xs : List ℕ) (a r : ℕ) : Type 0 where
  pub first : a ≤ r
  pub most : (j : ℕ) → j < length xs → weight g (get_or xs j 0) ≤ r
  pub some_one : (r ≡ a) ⊎ ((j : ℕ) × (j < length xs) × (weight g (get_or xs j 0) ≡ r))

greatest : (g : Game) (xs : List ℕ) (a : ℕ) → Greatest g xs a (fold max a (map (weight g) xs))
greatest g [] a = record { first = omega arith; most = λ j h. absurd (omega arith); some_one = inl refl }
greatest g (x ∷ xs) a = greatest_more g x xs a _ (greatest g xs (max a (weight g x)))
  where
    greatest_more : (g : Game) (x : ℕ) (xs : List ℕ) (a r : ℕ) → Greatest g xs (max a (weight g x)) r → Greatest g (x ∷ xs) a r
    greatest_more g x xs a r t = record { first = omega (arith, t.first); most = most; some_one = some_one t.some_one (cases_lt a (weight g x)) }
      where
        most : (j : ℕ) → j < length (x ∷ xs) → weight g (get_or (x ∷ xs) j 0) ≤ r
        most zero h = omega (arith, t.first)
        most (suc j) h = t.most j (omega arith)

        some_one : (r ≡ max a (weight g x)) ⊎ ((j : ℕ) × (j < length xs) × (weight g (get_or xs j 0) ≡ r)) → (a < weight g x) ⊎ (weight g x ≤ a) → (r ≡ a) ⊎ ((j : ℕ) × (j < length (x ∷ xs)) × (weight g (get_or (x ∷ xs) j 0) ≡ r))
        some_one (inl e) (inl l) = inr (0, omega arith, omega (arith, e))
        some_one (inl e) (inr l) = inl (omega (arith, e))
        some_one (inr p) c = inr (suc p.0, omega (arith, p.1), p.2)

pub heaviest_listed : (g : Game) (xs : List ℕ) (r : Option ℕ) (h : ℕ) → option_map (λ n. n) r ≡ reduce max (map (weight g) xs) → h ≡ unwrap_or r 0 → 0 < length xs → HeaviestOf g xs h
heaviest_listed g [] r h e is some = absurd (omega arith)
heaviest_listed g (x ∷ xs) r h e is some = record { most = most; some_place = place t.some_one }
  where
    h_is : h ≡ fold max (weight g x) (map (weight g) xs)
    h_is = is ∙ ap (λ o. unwrap_or o 0) (sym (option_map_id r) ∙ e)

    t : Greatest g xs (weight g x) (fold max (weight g x) (map (weight g) xs))
    t = greatest g xs (weight g x)

    most : (j : ℕ) → j < length (x ∷ xs) → weight g (get_or (x ∷ xs) j 0) ≤ h
    most zero l = omega (arith, t.first, h_is)
    most (suc j) l = omega (arith, t.most j (omega arith), h_is)

    place : (fold max (weight g x) (map (weight g) xs) ≡ weight g x) ⊎ ((j : ℕ) × (j < length xs) × (weight g (get_or xs j 0) ≡ fold max (weight g x) (map (weight g) xs))) → (j : ℕ) × (j < length (x ∷ xs)) × (weight g (get_or (x ∷ xs) j 0) ≡ h)
    place (inl e) = (0, omega arith, sym e ∙ sym h_is)
    place (inr p) = (suc p.0, omega (arith, p.1), p.2 ∙ sym h_is)
