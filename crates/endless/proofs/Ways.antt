-- How many moves of a place lead into a set: laws.
use Rattle.std.proofs.Common.{◌≡◌, ℕ, zero, suc, ◌+◌, ◌<◌, ◌≤◌, Bool, true, false, T, ◌⊎◌, List, [], ◌∷◌, length, get_or, set, drop, refl, ap, ◌∙◌, subst, ap₂, inl, inr, add-one, add-suc, arith}
use Rattle.std.proofs.lemmas.List.{drop_more}
use Rattle.std.proofs.lemmas.Bool.{cases_eq, cases_Bool}
use Rattle.endless.specs.Games.{Game, Among, first, later}
use Rattle.endless.specs.Sets.{Set, In, Out, Within, minus}
use Rattle.endless.specs.Subgames.{Subgame, Closed}
use Rattle.endless.specs.Bits.{members, Removed}
use Rattle.endless.specs.Graph.{moves, times}
use Rattle.endless.specs.Ways.{ways, queued, Counted, Open, Recounted}
use Rattle.endless.proofs.Tests.{T_true, true_T, either_both}
use Rattle.endless.proofs.CountLaws.{one_if, one_itself, one_other, one_le}
use Rattle.endless.proofs.Pushed.{pushed_front, pushed_last}
use Rattle.endless.proofs.Sets.{in_or_out, minus_in}
use Rattle.endless.proofs.Removed.{removed_out, removed_else}

pub ways_le : (U : Set) (ms : List ℕ) → ways U ms ≤ length ms
ways_le U [] = omega arith
ways_le U (m ∷ ms) = omega (arith, one_le (U m), ways_le U ms)

-- all that are in the set are counted
pub ways_all : (U : Set) (ms : List ℕ) → ((m : ℕ) → Among m ms → In U m) → ways U ms ≡ length ms
ways_all U [] all = refl
ways_all U (m ∷ ms) all = omega (arith, ap one_if (T_true (U m) (all m first)), ways_all U ms (λ k a. all k (later a)))

-- of a list that is gone through, what is left from the next place on
pub ways_next : (U : Set) (ms : List ℕ) (i : ℕ) → i < length ms → ways U (drop i ms) ≡ one_if (U (get_or ms i 0)) + ways U (drop (i + 1) ms)
ways_next U ms i h = ap (ways U) (drop_more ms i 0 h)

pub in_one : (b : Bool) → b ≡ true → one_if b ≡ 1
in_one b e = ap one_if e

-- to be among these and in the set is to be counted
pub among_ways : (U : Set) (m : ℕ) (ms : List ℕ) → Among m ms → In U m → 0 < ways U ms
among_ways U m [] a x = elim a [ ]
among_ways U m (k ∷ ms) first x = omega (arith, in_one (U m) (T_true _ x))
among_ways U m (k ∷ ms) (later a) x = omega (arith, among_ways U m ms a x)

pub ways_among : (U : Set) (ms : List ℕ) → 0 < ways U ms → (m : ℕ) × Among m ms × In U m
ways_among U [] h = absurd (omega arith)
ways_among U (k ∷ ms) h = go (ways_among U ms) (cases_Bool (U k))
  where
    go : (0 < ways U ms → (m : ℕ) × Among m ms × In U m) → (U k ≡ true) ⊎ (U k ≡ false) → (m : ℕ) × Among m (k ∷ ms) × In U m
    go rest (inl e) = (k, first, true_T _ e)
    go rest (inr e) = let t = rest (omega (arith, ap one_if e)) in (t.0, later t.1, t.2)

-- two sets that have the same of these
pub ways_same : (U V : Set) (ms : List ℕ) → ((m : ℕ) → Among m ms → U m ≡ V m) → ways U ms ≡ ways V ms
ways_same U V [] same = refl
ways_same U V (m ∷ ms) same = ap₂ (λ b n. one_if b + n) (same m first) (ways_same U V ms (λ k a. same k (later a)))

-- the same set, told otherwise
pub ways_alike : (U V : Set) → Within U V → Within V U → (ms : List ℕ) → ways U ms ≡ ways V ms
ways_alike U V to fro ms = ways_same U V ms (λ m a. either_both (U m) (V m) (to m) (fro m))

-- a closed part of a set has all moves of its places that the set has
pub ways_closed : {g : Game} {U R : Set} → Closed g U R → (n : ℕ) → In R n → ways U (moves g n) ≡ ways R (moves g n)
ways_closed {g} {U} {R} closed n x = ways_same U R (moves g n) (λ m may. either_both (U m) (R m) (λ u. closed.stays n m x may u) (closed.within m))

-- in a subgame each place has some
pub counted_open : (g : Game) (U L : Set) (escapes : List ℕ) → Subgame g U → Within L U → Counted g U L escapes → Open L escapes
counted_open g U L escapes sub inside counted n x = let t = sub.goes_on n (inside n x) in omega (arith, counted n x, among_ways U t.0 (moves g n) t.1 t.2)

-- in a closed part of a subgame all that stay in the one stay in the other
pub counted_part : {g : Game} {U R : Set} (L : Set) (escapes : List ℕ) → Closed g U R → Counted g U R escapes → Within L R → Counted g R L escapes
counted_part L escapes closed counted inside n x = counted n (inside n x) ∙ ways_closed closed n (inside n x)

-- the same set, told otherwise
pub counted_alike : (g : Game) (U V : Set) (escapes : List ℕ) → Within U V → Within V U → Counted g U U escapes → Counted g V V escapes
counted_alike g U V escapes to fro counted n x = counted n (fro n x) ∙ ways_alike U V to fro (moves g n)

-- where those of a part are counted anew, all are
pub counted_all : {g : Game} (U R : Set) (escapes escapes' : List ℕ) → Counted g U (minus U R) escapes → Recounted g U R escapes escapes' → Counted g U U escapes'
counted_all {g} U R escapes escapes' counted anew n x = go (in_or_out R n)
  where
    go : In R n ⊎ Out R n → get_or escapes' n 0 ≡ ways U (moves g n)
    go (inl r) = anew.counted n r
    go (inr o) = anew.rest n o ∙ counted n (minus_in U R n x o)

-- ---- a place goes from what is left to the end of the queue

pub ways_removed : (left : List ℕ) (k : ℕ) (left' : List ℕ) → Removed left k left' → In (members left) k → (ms : List ℕ) → ways (members left) ms ≡ times k ms + ways (members left') ms
ways_removed left k left' rem was [] = refl
ways_removed left k left' rem was (m ∷ ms) = go (ways_removed left k left' rem was ms) (cases_eq m k)
  where
    go : ways (members left) ms ≡ times k ms + ways (members left') ms → (m ≡ k) ⊎ (m ≡ k → ⊥) → ways (members left) (m ∷ ms) ≡ times k (m ∷ ms) + ways (members left') (m ∷ ms)
    go rest (inl e) =
        let here : one_if (members left m) ≡ 1 = in_one _ (ap (members left) e ∙ T_true _ was) in
        let out : one_if (members left' m) ≡ 0 = ap one_if (no (members left' m) (λ x. removed_out left k left' rem (subst (λ (j : ℕ). In (members left') j) e x))) in
        omega (arith, rest, here, out, one_itself m k e)
      where
        no : (b : Bool) → (T b → ⊥) → b ≡ false
        no true d = absurd (d tt)
        no false d = refl
    go rest (inr d) = omega (arith, rest, ap one_if (removed_else left k left' rem m d), one_other m k d)

pub queued_next : (queue : List ℕ) (k : ℕ) (ms : List ℕ) → queued queue (k + 1) ms ≡ times (get_or queue k 0) ms + queued queue k ms
queued_next queue k ms = ap (λ (i : ℕ). queued queue i ms) (add-one k)

module _ (queue : List ℕ) {queue' : List ℕ} (tail place : ℕ) (q : queue' ≡ set queue tail place) where
  pub queued_before : (k : ℕ) → k ≤ tail → (ms : List ℕ) → queued queue' k ms ≡ queued queue k ms
  queued_before zero h ms = refl
  queued_before (suc k) h ms = ap₂ (λ (i n : ℕ). times i ms + n) (pushed_front queue tail place q k (omega arith)) (queued_before k (omega arith) ms)

pub queued_grows : (queue : List ℕ) (ms : List ℕ) (k d : ℕ) → queued queue k ms ≤ queued queue (k + d) ms
queued_grows queue ms k zero = omega (arith, ap (λ (i : ℕ). queued queue i ms) (let e : k + 0 ≡ k = omega arith in e))
queued_grows queue ms k (suc d) = omega (arith, queued_grows queue ms k d, ap (λ (i : ℕ). queued queue i ms) (add-suc k d))

-- so both together stay as many
pub total_next : (left queue : List ℕ) (tail place : ℕ) {left' : List ℕ} → get_or queue tail 0 ≡ place → In (members left) place → Removed left place left' → (ms : List ℕ) →
    ways (members left') ms + queued queue (tail + 1) ms ≡ ways (members left) ms + queued queue tail ms
total_next left queue tail place {left'} at was rem ms = omega (arith, ways_removed left place left' rem was ms, queued_next queue tail ms, ap (λ (i : ℕ). times i ms) at)

pub total_kept : (left queue : List ℕ) (tail place : ℕ) {left' queue' : List ℕ} → tail < length queue → In (members left) place → Removed left place left' → queue' ≡ set queue tail place → (ms : List ℕ) →
    ways (members left') ms + queued queue' (tail + 1) ms ≡ ways (members left) ms + queued queue tail ms
total_kept left queue tail place {queue' = queue'} room was rem q ms = omega (arith, total_next left queue' tail place (pushed_last queue tail place q room) was rem ms, queued_before queue tail place q tail (omega arith) ms)
