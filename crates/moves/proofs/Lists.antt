-- The moves of a game in the order of its words: which place has each, where it leads, and where it stands.
use Rattle.std.proofs.Common.{◌≡◌, ℕ, zero, suc, ◌+◌, ◌-◌, ◌*◌, ◌<◌, ◌≤◌, T, ◌⊎◌, List, [], ◌∷◌, ◌++◌, length, get_or, take, drop, replicate, sym, refl, ap, ◌∙◌, subst, inl, inr, add-zero, arith}
use Rattle.std.proofs.lemmas.List.{take_all, append_assoc, append-nil, length-append, length-replicate, get_or-append-add, get_or_append_left, get_or-append_right, get_or-replicate, drop-drop}
use Rattle.std.proofs.lemmas.Slice.{take-put_mid}
use borrow.Rule.Slice.PartMut.{put_mid}
use Rattle.std.proofs.lemmas.Bool.{cases_lt}
use Rattle.endless.specs.Games.{Place, Game, Reads, ok_ps, row, Among, May}
use Rattle.endless.specs.Graph.{edges, moves}
use Rattle.endless.specs.View.{words_of}
use Rattle.endless.proofs.Among.{at_among}
use Rattle.endless.proofs.Places.{from_place, ok_parts, ok_size}
use Rattle.moves.specs.Alone.{alone}
use Rattle.moves.specs.Moves.{origins, targets, origin, target}
use Rattle.moves.specs.Marking.{before}
use Rattle.moves.proofs.Alone.{length_alone}

-- ---- how many

pub length_origins : (n : ℕ) (ps : List Place) → length (origins n ps) ≡ edges ps
length_origins n [] = refl
length_origins n (p ∷ ps) = omega (arith, length-append (replicate (length p.moves) n) (origins (suc n) ps), length-replicate (length p.moves) n, length_origins (suc n) ps)

pub length_targets : (ps : List Place) → length (targets ps) ≡ edges ps
length_targets [] = refl
length_targets (p ∷ ps) = omega (arith, length-append p.moves (targets ps), length_targets ps)

pub before_more : (g : Game) (n : ℕ) → n < length g → before g (n + 1) ≡ before g n + length (moves g n)
before_more [] n h = absurd (omega arith)
before_more (p ∷ ps) zero h = omega arith
before_more (p ∷ ps) (suc n) h =
    let e : suc n + 1 ≡ suc (n + 1) = omega arith in
    let t : before (p ∷ ps) (suc n + 1) ≡ length p.moves + before ps (n + 1) = ap (before (p ∷ ps)) e in
    omega (arith, t, before_more ps n (omega arith))

pub before_most : (g : Game) (n : ℕ) → before g n ≤ edges g
before_most [] zero = omega arith
before_most [] (suc n) = omega arith
before_most (p ∷ ps) zero = omega arith
before_most (p ∷ ps) (suc n) = omega (arith, before_most ps n)

pub before_all : (g : Game) → before g (length g) ≡ edges g
before_all g = ap edges (take_all (length g) g (omega arith))

-- each place has a move
edges_ok : (k : ℕ) (ps : List Place) → T (ok_ps k ps) → length ps ≤ edges ps
edges_ok k [] t = omega arith
edges_ok k (p ∷ ps) t = let f = ok_parts k p ps t in omega (arith, f.0.moving, edges_ok k ps f.1)

pub edges_many : {s : List ℕ} {g : Game} → Reads s g → length g ≤ edges g
edges_many {s} {g} r = edges_ok (length g) g (ok_size s g r).2

-- ---- which

from_at : (v : ℕ) (g : Game) (n i : ℕ) → n < length g → i < length (moves g n) → get_or (origins v g) (before g n + i) 0 ≡ v + n
from_at v [] n i h l = absurd (omega arith)
from_at v (p ∷ ps) zero i h l =
    let z : 0 + i ≡ i = omega arith in
    ap (λ (k : ℕ). get_or (origins v (p ∷ ps)) k 0) z ∙ get_or_append_left (replicate (length p.moves) v) (origins (suc v) ps) 0 i (omega (arith, length-replicate (length p.moves) v)) ∙ get_or-replicate (length p.moves) i v 0 l ∙ sym (add-zero v)
from_at v (p ∷ ps) (suc n) i h l =
    let z : before (p ∷ ps) (suc n) + i ≡ length (replicate (length p.moves) v) + (before ps n + i) = omega (arith, length-replicate (length p.moves) v) in
    let e : suc v + n ≡ v + suc n = omega arith in
    ap (λ (k : ℕ). get_or (origins v (p ∷ ps)) k 0) z ∙ get_or-append-add (replicate (length p.moves) v) (origins (suc v) ps) (before ps n + i) 0 ∙ from_at (suc v) ps n i (omega arith) l ∙ e

pub origin_at : (g : Game) (n i : ℕ) → n < length g → i < length (moves g n) → origin g (before g n + i) ≡ n
origin_at g n i h l = let e : 0 + n ≡ n = omega arith in from_at 0 g n i h l ∙ e

pub target_at : (g : Game) (n i : ℕ) → n < length g → i < length (moves g n) → target g (before g n + i) ≡ get_or (moves g n) i 0
target_at [] n i h l = absurd (omega arith)
target_at (p ∷ ps) zero i h l = let z : 0 + i ≡ i = omega arith in ap (λ (k : ℕ). get_or (targets (p ∷ ps)) k 0) z ∙ get_or_append_left p.moves (targets ps) 0 i l
target_at (p ∷ ps) (suc n) i h l =
    let z : before (p ∷ ps) (suc n) + i ≡ length p.moves + (before ps n + i) = omega arith in
    ap (λ (k : ℕ). get_or (targets (p ∷ ps)) k 0) z ∙ get_or-append-add p.moves (targets ps) (before ps n + i) 0 ∙ target_at ps n i (omega arith) l

-- each is a move of a place
steps : (v : ℕ) (g : Game) (k : ℕ) → k < edges g → (n : ℕ) × (get_or (origins v g) k 0 ≡ v + n) × (n < length g) × Among (get_or (targets g) k 0) (moves g n)
steps v [] k h = absurd (omega arith)
steps v (p ∷ ps) k h = go (cases_lt k (length p.moves)) (steps (suc v) ps (k - length p.moves))
  where
    own : length (replicate (length p.moves) v) ≡ length p.moves
    own = length-replicate (length p.moves) v

    go : (k < length p.moves) ⊎ (length p.moves ≤ k) → (k - length p.moves < edges ps → (n : ℕ) × (get_or (origins (suc v) ps) (k - length p.moves) 0 ≡ suc v + n) × (n < length ps) × Among (get_or (targets ps) (k - length p.moves) 0) (moves ps n)) →
        (n : ℕ) × (get_or (origins v (p ∷ ps)) k 0 ≡ v + n) × (n < length (p ∷ ps)) × Among (get_or (targets (p ∷ ps)) k 0) (moves (p ∷ ps) n)
    go (inl l) rest = (
      0,
      get_or_append_left (replicate (length p.moves) v) (origins (suc v) ps) 0 k (omega (arith, own)) ∙ get_or-replicate (length p.moves) k v 0 l ∙ sym (add-zero v),
      omega arith,
      subst (λ (x : ℕ). Among x p.moves) (sym (get_or_append_left p.moves (targets ps) 0 k l)) (at_among p.moves k l),
    )
    go (inr l) rest =
        let t = rest (omega arith) in
        let e : suc v + t.0 ≡ v + suc t.0 = omega arith in (
          suc t.0,
          get_or-append_right (replicate (length p.moves) v) (origins (suc v) ps) (length p.moves) k 0 own l ∙ t.1 ∙ e,
          omega (arith, t.2),
          subst (λ (x : ℕ). Among x (moves ps t.0)) (sym (get_or-append_right p.moves (targets ps) (length p.moves) k 0 refl l)) t.3,
        )

pub step_may : (g : Game) (k : ℕ) → k < edges g → May g (origin g k) (target g k)
step_may g k h = let t = steps 0 g k h in let e : 0 + t.0 ≡ t.0 = omega arith in subst (λ (n : ℕ). May g n (target g k)) (sym (t.1 ∙ e)) t.3

pub origin_below : (g : Game) (k : ℕ) → k < edges g → origin g k < length g
origin_below g k h = from_place g (origin g k) (target g k) (step_may g k h)

-- ---- one place more

pub origins_more : (v : ℕ) (g : Game) (n : ℕ) → n < length g → origins v (take (n + 1) g) ≡ origins v (take n g) ++ replicate (length (moves g n)) (v + n)
origins_more v [] n h = absurd (omega arith)
origins_more v (p ∷ ps) zero h = append-nil (replicate (length p.moves) v) ∙ ap (replicate (length p.moves)) (sym (add-zero v))
origins_more v (p ∷ ps) (suc n) h =
    let e : suc n + 1 ≡ suc (n + 1) = omega arith in
    let z : suc v + n ≡ v + suc n = omega arith in
    let these : List ℕ = replicate (length p.moves) v in
    ap (λ (k : ℕ). origins v (take k (p ∷ ps))) e ∙ ap (λ (l : List ℕ). these ++ l) (origins_more (suc v) ps n (omega arith) ∙ ap (λ (k : ℕ). origins (suc v) (take n ps) ++ replicate (length (moves ps n)) k) z)
    ∙ sym (append_assoc these (origins (suc v) (take n ps)) (replicate (length (moves ps n)) (v + suc n)))

pub targets_more : (g : Game) (n : ℕ) → n < length g → targets (take (n + 1) g) ≡ targets (take n g) ++ moves g n
targets_more [] n h = absurd (omega arith)
targets_more (p ∷ ps) zero h = append-nil p.moves
targets_more (p ∷ ps) (suc n) h =
    let e : suc n + 1 ≡ suc (n + 1) = omega arith in
    ap (λ (k : ℕ). targets (take k (p ∷ ps))) e ∙ ap (λ (l : List ℕ). p.moves ++ l) (targets_more ps n (omega arith)) ∙ sym (append_assoc p.moves (targets (take n ps)) (moves ps n))

-- the moves of the places before n are listed
pub record Listed (g : Game) (n first : ℕ) (from to : List ℕ) : Type 0 where
  pub first_is : first ≡ before g n
  pub from_are : take first from ≡ origins 0 (take n g)
  pub to_are : take first to ≡ targets (take n g)

pub listed_none : (g : Game) (from to : List ℕ) → Listed g 0 0 from to
listed_none g from to = record { first_is = refl; from_are = refl; to_are = refl }

pub listed_more : {g : Game} {n first : ℕ} {from to : List ℕ} → n < length g → Listed g n first from to → {c : ℕ} {from' to' : List ℕ} → c ≡ length (moves g n) →
    take (first + c) from' ≡ take first from ++ replicate c n → take (first + c) to' ≡ take first to ++ moves g n → Listed g (n + 1) (first + c) from' to'
listed_more {g} {n} {first} {from} {to} h l {c} {from'} {to'} e ef et =
    let z : 0 + n ≡ n = omega arith in
    record {
      first_is = omega (arith, before_more g n h, l.first_is, e);
      from_are = ef ∙ ap (λ (xs : List ℕ). xs ++ replicate c n) l.from_are ∙ ap (λ (k : ℕ). origins 0 (take n g) ++ replicate k n) e ∙ sym (origins_more 0 g n h ∙ ap (λ (k : ℕ). origins 0 (take n g) ++ replicate (length (moves g n)) k) z);
      to_are = et ∙ ap (λ (xs : List ℕ). xs ++ moves g n) l.to_are ∙ sym (targets_more g n h);
    }

pub listed_all : {g : Game} {n first : ℕ} {from to : List ℕ} → n ≡ length g → length from ≡ edges g → length to ≡ edges g → Listed g n first from to → (from ≡ origins 0 g) × (to ≡ targets g)
listed_all {g} {n} {first} {from} {to} e lf lt l =
    let f : first ≡ edges g = l.first_is ∙ ap (before g) e ∙ before_all g in
    let w : take n g ≡ g = take_all n g (omega arith) in (
      sym (take_all first from (omega arith)) ∙ l.from_are ∙ ap (origins 0) w,
      sym (take_all first to (omega arith)) ∙ l.to_are ∙ ap targets w,
    )

-- ---- where they stand in the words

-- the words of the first place
abbrev front : Place → List ℕ
front p = p.whose ∷ p.weight ∷ length p.moves ∷ p.moves

take_past : (a b : List ℕ) (j : ℕ) → take (length a + j) (a ++ b) ≡ a ++ take j b
take_past [] b j = let e : 0 + j ≡ j = omega arith in ap (λ (k : ℕ). take k b) e
take_past (x ∷ a) b j = let e : suc (length a) + j ≡ suc (length a + j) = omega arith in ap (λ (k : ℕ). take k (x ∷ (a ++ b))) e ∙ ap (λ (l : List ℕ). x ∷ l) (take_past a b j)

drop_past : (a b : List ℕ) (j : ℕ) → drop (length a + j) (a ++ b) ≡ drop j b
drop_past [] b j = let e : 0 + j ≡ j = omega arith in ap (λ (k : ℕ). drop k b) e
drop_past (x ∷ a) b j = let e : suc (length a) + j ≡ suc (length a + j) = omega arith in ap (λ (k : ℕ). drop k (x ∷ (a ++ b))) e ∙ drop_past a b j

-- the moves of place n stand from `start` on in the row of a game's places
abbrev pub start : Game → ℕ → ℕ
start g n = 3 + (3 * n + before g n)

row_alone : (g : Game) (n m : ℕ) → n < length g → row (alone g n m) ≡ take (start g n) (row g) ++ (replicate (length (moves g n)) m ++ drop (start g n + length (moves g n)) (row g))
row_alone [] n m h = absurd (omega arith)
row_alone (p ∷ ps) zero m h =
    let three : List ℕ = p.whose ∷ p.weight ∷ length p.moves ∷ [] in
    let s : start (p ∷ ps) 0 ≡ length three + 0 = omega arith in
    let e : start (p ∷ ps) 0 + length p.moves ≡ length (front p) + 0 = omega arith in
    let one : List ℕ = replicate (length p.moves) m in
    sym (
    ap (λ (k : ℕ). take k (row (p ∷ ps)) ++ (one ++ drop (start (p ∷ ps) 0 + length p.moves) (row (p ∷ ps)))) s
    ∙ ap (λ (l : List ℕ). l ++ (one ++ drop (start (p ∷ ps) 0 + length p.moves) (row (p ∷ ps)))) (take_past three (p.moves ++ row ps) 0)
    ∙ ap (λ (k : ℕ). three ++ (one ++ drop k (row (p ∷ ps)))) e
    ∙ ap (λ (l : List ℕ). three ++ (one ++ l)) (drop_past (front p) (row ps) 0)
    ∙ ap (λ (k : ℕ). p.whose ∷ p.weight ∷ k ∷ (one ++ row ps)) (sym (length-replicate (length p.moves) m))
    )
row_alone (p ∷ ps) (suc n) m h =
    let c : ℕ = length (moves ps n) in
    let s : start (p ∷ ps) (suc n) ≡ length (front p) + start ps n = omega arith in
    let e : start (p ∷ ps) (suc n) + c ≡ length (front p) + (start ps n + c) = omega arith in
    let one : List ℕ = replicate c m in
    ap (λ (l : List ℕ). p.whose ∷ p.weight ∷ length p.moves ∷ (p.moves ++ l)) (row_alone ps n m (omega arith))
    ∙ sym (
    ap (λ (k : ℕ). take k (row (p ∷ ps)) ++ (one ++ drop (start (p ∷ ps) (suc n) + c) (row (p ∷ ps)))) s
    ∙ ap (λ (k : ℕ). take (length (front p) + start ps n) (row (p ∷ ps)) ++ (one ++ drop k (row (p ∷ ps)))) e
    ∙ (ap (λ (l : List ℕ). l ++ (one ++ drop (length (front p) + (start ps n + c)) (row (p ∷ ps)))) (take_past (front p) (row ps) (start ps n)))
    ∙ (ap (λ (l : List ℕ). (front p ++ take (start ps n) (row ps)) ++ (one ++ l)) (drop_past (front p) (row ps) (start ps n + c)))
    ∙ (append_assoc (front p) (take (start ps n) (row ps)) (one ++ drop (start ps n + c) (row ps)))
    )

-- the words of the game in which place n has one move alone
pub words_alone : (g : Game) (n m at c : ℕ) → n < length g → at ≡ 1 + start g n → c ≡ length (moves g n) → words_of (alone g n m) ≡ take at (words_of g) ++ (replicate c m ++ drop (at + c) (words_of g))
words_alone g n m at c h e d =
    let one : List ℕ = replicate c m in
    let a : at ≡ suc (start g n) = omega arith in
    let b : at + c ≡ suc (start g n + length (moves g n)) = omega arith in
    sym (
    ap (λ (k : ℕ). take k (words_of g) ++ (one ++ drop (at + c) (words_of g))) a
    ∙ ap (λ (k : ℕ). take (suc (start g n)) (words_of g) ++ (one ++ drop k (words_of g))) b
    ∙ ap (λ (k : ℕ). (length g ∷ take (start g n) (row g)) ++ (replicate k m ++ drop (start g n + length (moves g n)) (row g))) d
    ∙ ap (λ (l : List ℕ). length g ∷ l) (sym (row_alone g n m h))
    ∙ ap (λ (k : ℕ). k ∷ row (alone g n m)) (sym (length_alone g n m))
    )

pub words_long : (g : Game) → length (words_of g) ≡ 1 + 3 * length g + edges g
words_long [] = refl
words_long (p ∷ ps) = let r = words_long ps in omega (arith, r, length-append p.moves (row ps))

-- the moves of a place stand within the words
pub within_words : (g : Game) (n : ℕ) → n < length g → 1 + start g n + length (moves g n) ≤ length (words_of g)
within_words g n h = let t : before g (n + 1) ≤ edges g = before_most g (n + 1) in omega (arith, before_more g n h, words_long g)

-- the moves of the next place are within those of all
pub next_most : (g : Game) (n first : ℕ) → n < length g → first ≡ before g n → first + length (moves g n) ≤ edges g
next_most g n first h e = omega (arith, before_more g n h, before_most g (n + 1))

-- what is written behind the front of a list
pub put_next : (a k : ℕ) (xs ys : List ℕ) {zs : List ℕ} {c : ℕ} → ys ≡ zs → length zs ≡ c → a ≤ length xs → take (a + c) (put_mid a k xs ys) ≡ take a xs ++ zs
put_next a k xs ys {zs} {c} e l h = take-put_mid a k xs ys (a + c) (omega (arith, ap length e)) h ∙ ap (λ (l : List ℕ). take a xs ++ l) e

-- the middle of a list filled with one number
pub fill_mid : (a c v : ℕ) (xs ys : List ℕ) → ys ≡ replicate c v → put_mid a (a + c - a) xs ys ≡ take a xs ++ (replicate c v ++ drop (a + c) xs)
fill_mid a c v xs ys e =
    let z : a + c - a ≡ c = omega arith in
    ap (λ (k : ℕ). put_mid a k xs ys) z ∙ ap (λ (l : List ℕ). take a xs ++ (l ++ drop c (drop a xs))) e ∙ ap (λ (l : List ℕ). take a xs ++ (replicate c v ++ l)) (drop-drop c a xs)
