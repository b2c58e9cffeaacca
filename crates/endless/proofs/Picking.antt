-- Going through a list of places, or through what an iterator gives: those that go to the queue.
use Rattle.std.proofs.Common.{◌≡◌, ℕ, ◌+◌, ◌*◌, ◌<◌, ◌≤◌, Bool, true, false, eqb, ◌⊎◌, List, Option, Some, None, length, get_or, set, sym, refl, ap, ◌∙◌, subst, ⊎_elim, inl, inr, arith, eqb→eq}
use Rattle.std.proofs.lemmas.Bool.{cases_eq, cases_lt, eq-eqb, both_ways}
use Rattle.std.proofs.lemmas.Iterator.{YieldsList}
use Rattle.std.proofs.lemmas.Iterator.Consumers.{YieldsList-turn, YieldsList-end}
use Rattle.std.proofs.lemmas.Grind.{get_or_default_zero}
use Rattle.std.specs.Iterator.{Yields}
use Rattle.endless.specs.Games.{Game, weight}
use Rattle.endless.specs.Says.{side, goes}
use Rattle.endless.specs.Sets.{Set, In, Out, Within, having}
use Rattle.endless.specs.Bits.{members, size, Removed}
use Rattle.endless.specs.Ways.{ways, queued}
use Rattle.endless.specs.Pulling.{Passed, Unchanged, Starts}
use Rattle.endless.specs.Sides.{number}
use Rattle.endless.specs.Levels.{HeaviestIn, HeaviestOf, GatheredIn, Stays, Taken, TakenIf}
use Rattle.endless.specs.Gatherings.{SameGathering, SamePicking, Takes, Picks}
use Rattle.endless.specs.declared.gather.Gathering.{Gathering}
use Rattle.endless.specs.declared.gather.Picking as picking
use Rattle.endless.specs.Parts.{Told, Covers, Gives, Part, PickedIf, Any, AnyAt, wanted, mark}
use Rattle.endless.proofs.Tests.{T_true, true_T}
use Rattle.endless.proofs.SetLaws.{size_some}
use Rattle.endless.proofs.Sets.{having_in, having_within, having_is}
use Rattle.endless.proofs.Gathering.{given_same, given_length, given_side, given_stays}
use Rattle.endless.proofs.Pushed.{pushed_each, pushed_passed}
use Rattle.endless.proofs.Removed.{removed_out, removed_within, removed_still}
use Rattle.endless.proofs.Ways.{total_kept}
use Rattle.endless.proofs.Working.{unchanged_goes, same_side}

-- what stands in a told list is in the part
pub told_in : (list : List ℕ) (R : Set) → Told list R → (j : ℕ) → j < length list → In R (get_or list j 0)
told_in list R told j h = (told (get_or list j 0)).1 (j, h, refl)

-- the list of a part with places is not empty
pub told_some : (list part : List ℕ) → Told list (members part) → 0 < size part → 0 < length list
told_some list part told h = let t = size_some part h in omega (arith, ((told t.0).0 (true_T _ t.1)).1)

-- ---- going through places that an iterator gives, which are those of a list

module _ {S : Type 0} (steps : S → Option ℕ → S → Type 0) {s s' : S} (list : List ℕ) (same : s' ≡ s) (gives : Gives steps s list) (xs : List ℕ) (t : S) (so_far : Yields steps s' xs t) where
  yields_list : YieldsList steps (λ n. n) s' list
  yields_list = record { runs = rw same gives }

  -- the place of this turn
  pub turn_at : (r : Option ℕ) (u : S) (x : ℕ) → r ≡ Some x → steps t r u → (length xs < length list) × (get_or list (length xs) 0 ≡ x)
  turn_at r u x is step = let here = YieldsList-turn yields_list xs t so_far r u x is step in (here.0, sym (get_or_default_zero list (length xs) x here.0) ∙ sym here.1)

  -- after the last
  pub end_at : (r : Option ℕ) (u : S) → r ≡ None → steps t r u → length xs ≡ length list
  end_at r u is step = (YieldsList-end yields_list xs t so_far r u is step).1

-- ---- the heaviest weight

pub heaviest_told : (g : Game) (list : List ℕ) (R : Set) (h : ℕ) → Told list R → HeaviestOf g list h → HeaviestIn g R h
heaviest_told g list R h told k = record {
  most = λ n x. let t = (told n).0 x in subst (λ (j : ℕ). weight g j ≤ h) t.2 (k.most t.0 t.1);
  some_place = let t = k.some_place in (get_or list t.0 0, told_in list R told t.0 t.1, t.2);
}

-- ---- whether f is k at any

module _ (f : ℕ → ℕ) (k : ℕ) (list : List ℕ) where
  pub any_here : (i : ℕ) {place : ℕ} → i < length list → get_or list i 0 ≡ place → eqb (f place) k ≡ true → AnyAt f k list (length list) true
  any_here i {place} h is same = (i, h, ap f is ∙ eqb→eq (f place) k (true_T _ same))

  pub any_more : (i : ℕ) {place : ℕ} → get_or list i 0 ≡ place → AnyAt f k list i false → eqb (f place) k ≡ false → AnyAt f k list (i + 1) false
  any_more i {place} is so_far other j h e = go (cases_lt j i)
    where
      go : (j < i) ⊎ (i ≤ j) → ⊥
      go (inl l) = so_far j l e
      go (inr l) = both_ways (eqb (f place) k) other (eq-eqb (f place) k (ap f (sym is ∙ ap (λ (x : ℕ). get_or list x 0) (let t : i ≡ j = omega arith in t)) ∙ e))

  -- of a list that tells a set
  pub any_told : (R : Set) → Told list R → (r : Bool) → AnyAt f k list (length list) r → Any (having R f k) r
  any_told R told true = λ t. (get_or list t.0 0, having_in R f k (get_or list t.0 0) (told_in list R told t.0 t.1) t.2)
  any_told R told false = λ none n x. let t = (told n).0 (having_within R f k n x) in none t.0 t.1 (ap f t.2 ∙ having_is R f k n x)

-- ---- those at which f is k

-- of the first i places of a list, those in the set at which f is k have gone from what is left to the queue
pub record Picking (f : ℕ → ℕ) (k : ℕ) (own list : List ℕ) (i : ℕ) (left queue : List ℕ) (count : ℕ) : Type 0 where
  pub counts : count + size left ≡ size own
  pub same : count ≡ 0 → left ≡ own
  pub rest : Within (members left) (members own)
  pub apart : (j : ℕ) → j < i → f (get_or list j 0) ≡ k → Out (members left) (get_or list j 0)
  pub covers : (n : ℕ) → In (members own) n → Out (members left) n → Passed list i n × (f n ≡ k)
  pub first : (j : ℕ) → j < count → In (members own) (get_or queue j 0) × Out (members left) (get_or queue j 0)
  pub all : (n : ℕ) → In (members own) n → Out (members left) n → Passed queue count n
  pub total : (ms : List ℕ) → ways (members left) ms + queued queue count ms ≡ ways (members own) ms

module _ {f : ℕ → ℕ} {k : ℕ} {own list : List ℕ} {i : ℕ} {left queue : List ℕ} {count : ℕ} (so_far : Picking f k own list i left queue count) where
  later : (n : ℕ) → Passed list i n → Passed list (i + 1) n
  later n p = (p.0, omega (arith, p.1), p.2)

  pub picking_skip : (In (members left) (get_or list i 0) → f (get_or list i 0) ≡ k → ⊥) → Picking f k own list (i + 1) left queue count
  picking_skip d = record {
    counts = so_far.counts;
    same = so_far.same;
    rest = so_far.rest;
    apart = λ j h. apart j h (cases_lt j i);
    covers = λ n x o. let t = so_far.covers n x o in (later n t.0, t.1);
    first = so_far.first;
    all = so_far.all;
    total = so_far.total;
  }
    where
      apart : (j : ℕ) → j < i + 1 → (j < i) ⊎ (i ≤ j) → f (get_or list j 0) ≡ k → Out (members left) (get_or list j 0)
      apart j h (inl l) e x = so_far.apart j l e x
      apart j h (inr l) e x = subst (λ (m : ℕ). In (members left) (get_or list m 0) → f (get_or list m 0) ≡ k → ⊥) (let t : i ≡ j = omega arith in t) d x e

  module _ (room : count < length queue) (mine : In (members left) (get_or list i 0)) (is : f (get_or list i 0) ≡ k) (left' queue' : List ℕ) (rem : Removed left (get_or list i 0) left') (q : queue' ≡ set queue count (get_or list i 0)) where
    pub picking_take : Picking f k own list (i + 1) left' queue' (count + 1)
    picking_take = record {
      counts = omega (arith, so_far.counts, rem.shrinks (T_true _ mine));
      same = λ e. absurd (omega arith);
      rest = λ n x. so_far.rest n (removed_within left (get_or list i 0) left' rem n x);
      apart = λ j h e x. apart j h (cases_lt j i) e x;
      covers = λ n x o. covers n x o (cases_eq n (get_or list i 0));
      first = pushed_each queue count (get_or list i 0) q room (λ n. In (members own) n × Out (members left') n)
          (λ j l. let t = so_far.first j l in (t.0, λ x. t.1 (removed_within left (get_or list i 0) left' rem (get_or queue j 0) x)))
          (so_far.rest (get_or list i 0) mine, removed_out left (get_or list i 0) left' rem);
      all = λ n x o. pushed_passed queue count (get_or list i 0) q room n (⊎_elim (λ e. inl e) (λ d. inr (so_far.all n x (removed_still left (get_or list i 0) left' rem n d o))) (cases_eq n (get_or list i 0)));
      total = λ ms. total_kept left queue count (get_or list i 0) room mine rem q ms ∙ so_far.total ms;
    }
      where
        apart : (j : ℕ) → j < i + 1 → (j < i) ⊎ (i ≤ j) → f (get_or list j 0) ≡ k → Out (members left') (get_or list j 0)
        apart j h (inl l) e x = so_far.apart j l e (removed_within left (get_or list i 0) left' rem (get_or list j 0) x)
        apart j h (inr l) e x = removed_out left (get_or list i 0) left' rem (subst (λ (m : ℕ). In (members left') (get_or list m 0)) (let t : j ≡ i = omega arith in t) x)

        covers : (n : ℕ) → In (members own) n → Out (members left') n → (n ≡ get_or list i 0) ⊎ (n ≡ get_or list i 0 → ⊥) → Passed list (i + 1) n × (f n ≡ k)
        covers n x o (inl e) = ((i, omega arith, sym e), ap f e ∙ is)
        covers n x o (inr d) = let t = so_far.covers n x (removed_still left (get_or list i 0) left' rem n d o) in (later n t.0, t.1)

  -- one place more
  pub picking_more : {left' queue' : List ℕ} {r : ℕ} → size own ≤ length queue → PickedIf f k (get_or list i 0) count left queue left' queue' r → Picking f k own list (i + 1) left' queue' r
  picking_more {left'} {queue'} {r} room (inl t) = rw (t.0, t.1, t.2) (picking_skip t.3)
  picking_more {left'} {queue'} {r} room (inr t) = rw t.0 (picking_take (omega (arith, so_far.counts, t.3.shrinks (T_true _ t.1))) t.1 t.2 left' queue' t.3 t.4)

  -- after the last place of a list that has all of a part, and nothing else of the set
  pub picking_all : (R : Set) → i ≡ length list → Within R (members own) → ((n : ℕ) → In R n → Passed list (length list) n) → ((n : ℕ) → In (members own) n → Passed list (length list) n → In R n) → Starts (members own) (having R f k) left queue count
  picking_all R end inside has only = record {
    rest = so_far.rest;
    inside = λ n x. inside n (having_within R f k n x);
    apart = apart;
    covers = covers;
    first = λ j h. let t = so_far.first j h in covers (get_or queue j 0) t.0 t.1;
    all = λ n x. so_far.all n (inside n (having_within R f k n x)) (apart n x);
    total = so_far.total;
  }
    where
      apart : (n : ℕ) → In (having R f k) n → Out (members left) n
      apart n x =
          let t = has n (having_within R f k n x) in
          subst (λ (m : ℕ). Out (members left) m) t.2 (so_far.apart t.0 (omega (arith, t.1)) (ap f t.2 ∙ having_is R f k n x))

      covers : (n : ℕ) → In (members own) n → Out (members left) n → In (having R f k) n
      covers n x o =
          let t = so_far.covers n x o in
          having_in R f k n (only n x (t.0.0, omega (arith, t.0.1), t.0.2)) t.1

-- ---- those of a weight, which are given to a side with a move that stays

pub record Taking (g : Game) (w h : ℕ) (own part out list : List ℕ) (i : ℕ) (left queue out' : List ℕ) (count : ℕ) : Type 0 where
  pub picks : Picking (weight g) h part list i left queue count
  pub frame : (n : ℕ) → Out (members part) n → Unchanged out out' n
  pub labelled : (n : ℕ) → In (members part) n → Out (members left) n → side out' n ≡ w
  pub stays : (n : ℕ) → In (members part) n → Out (members left) n → Stays g (members own) n (goes out' n)

module _ {g : Game} {w h : ℕ} {own part out list : List ℕ} {i : ℕ} {left queue out' : List ℕ} {count : ℕ} (so_far : Taking g w h own part out list i left queue out' count) where
  module _ (room : 2 * get_or list i 0 + 1 < length out') {left' queue' out'' : List ℕ} (mine : In (members left) (get_or list i 0)) (t : Taken g w (get_or list i 0) (members own) count left queue out' left' queue' out'') (more : Picking (weight g) h part list (i + 1) left' queue' (count + 1)) where
    same : (n : ℕ) → (n ≡ get_or list i 0 → ⊥) → Unchanged out' out'' n
    same = given_same room t.given

    taking_take : Taking g w h own part out list (i + 1) left' queue' out'' (count + 1)
    taking_take = record {
      picks = more;
      frame = λ n o.
          let a = so_far.frame n o in
          let b = same n (λ e. o (so_far.picks.rest n (subst (λ (j : ℕ). In (members left) j) (sym e) mine))) in
          (b.0 ∙ a.0, b.1 ∙ a.1);
      labelled = λ n x o. labelled n x o (cases_eq n (get_or list i 0));
      stays = λ n x o. stays n x o (cases_eq n (get_or list i 0));
    }
      where
        labelled : (n : ℕ) → In (members part) n → Out (members left') n → (n ≡ get_or list i 0) ⊎ (n ≡ get_or list i 0 → ⊥) → side out'' n ≡ w
        labelled n x o (inl e) = ap (side out'') e ∙ given_side room t.given
        labelled n x o (inr d) = same_side out' out'' n (given_length room t.given) (same n d) ∙ so_far.labelled n x (removed_still left (get_or list i 0) left' t.left_is n d o)

        stays : (n : ℕ) → In (members part) n → Out (members left') n → (n ≡ get_or list i 0) ⊎ (n ≡ get_or list i 0 → ⊥) → Stays g (members own) n (goes out'' n)
        stays n x o (inl e) = subst (λ (j : ℕ). Stays g (members own) j (goes out'' j)) (sym e) (given_stays room t.given)
        stays n x o (inr d) = subst (Stays g (members own) n) (sym (unchanged_goes out' out'' n (same n d))) (so_far.stays n x (removed_still left (get_or list i 0) left' t.left_is n d o))

  pub taking_more : size part ≤ length queue → 2 * get_or list i 0 + 1 < length out' → {left' queue' out'' : List ℕ} {r : ℕ} → TakenIf g w h (get_or list i 0) (members own) count left queue out' left' queue' out'' r → Taking g w h own part out list (i + 1) left' queue' out'' r
  taking_more space room (inl t) =
      rw (t.0, t.1, t.2, t.3) (record {
        picks = picking_more so_far.picks space (inl (refl, refl, refl, t.4));
        frame = so_far.frame;
        labelled = so_far.labelled;
        stays = so_far.stays;
      })
  taking_more space room (inr t) = rw t.0 (taking_take room t.1 t.3 (picking_more so_far.picks space (inr (refl, t.1, t.2, t.3.left_is, t.3.queue_is))))

  pub taking_all : i ≡ length list → Covers part list → GatheredIn g (members part) (members own) w h left queue out' count
  taking_all end covers = record {
    starts = starts;
    labelled = λ n y. so_far.labelled n (having_within (members part) (weight g) h n y) (starts.apart n y);
    stays = λ n y. so_far.stays n (having_within (members part) (weight g) h n y) (starts.apart n y);
  }
    where
      starts : Starts (members part) (having (members part) (weight g) h) left queue count
      starts = picking_all so_far.picks (members part) end (λ n x. x) covers (λ n x p. x)

-- a gathering that goes on
pub gathering_then : {a b c : Gathering} → SameGathering a b → SameGathering b c → SameGathering a c
gathering_then s t = record { graph = t.graph ∙ s.graph; side = t.side ∙ s.side; heaviest = t.heaviest ∙ s.heaviest; own = t.own ∙ s.own; left = t.left ∙ s.left; out = t.out ∙ s.out; queue = t.queue ∙ s.queue; queue_long = t.queue_long ∙ s.queue_long }

pub taken_so : {a b : Gathering} (c : Gathering) {place : ℕ} → SameGathering a b → Takes b place c → TakenIf a.graph.now (number a.side) a.heaviest place (members a.own.now) b.count b.left.now b.queue.now b.out.now c.left.now c.queue.now c.out.now c.count
taken_so c s t = rw (← s.graph, ← s.side, ← s.heaviest, ← s.own) t

-- and one of wanted places
pub same_picking_then : {a b c : picking.Picking} → SamePicking a b → SamePicking b c → SamePicking a c
same_picking_then s t = record { winner = t.winner ∙ s.winner; set = t.set ∙ s.set; out = t.out ∙ s.out; queue = t.queue ∙ s.queue; set_long = t.set_long ∙ s.set_long; queue_long = t.queue_long ∙ s.queue_long }

pub picked_so : {a b : picking.Picking} (c : picking.Picking) {place : ℕ} → SamePicking a b → Picks b place c → PickedIf (wanted a.winner a.out.now) (mark a.winner) place b.count b.set.now b.queue.now c.set.now c.queue.now c.count
picked_so c s t = rw (← s.winner, ← s.out) t

-- ---- the same targets, told otherwise
pub starts_as : (U D E : Set) (l q : List ℕ) (k : ℕ) → Within D E → Within E D → Starts U D l q k → Starts U E l q k
starts_as U D E l q k to fro s = record {
  rest = s.rest;
  inside = λ n x. s.inside n (fro n x);
  apart = λ n x. s.apart n (fro n x);
  covers = λ n x o. to n (s.covers n x o);
  first = λ j h. to (get_or q j 0) (s.first j h);
  all = λ n x. s.all n (fro n x);
  total = s.total;
}

-- where there is no list, a part is all of its set
pub starts_whole : {own l q : List ℕ} {list : Option (List ℕ)} {R : Set} {count : ℕ} (f : ℕ → ℕ) (k : ℕ) → Part own list R → list ≡ None → Starts (members own) (having (members own) f k) l q count → Starts (members own) (having R f k) l q count
starts_whole {own} {l} {q} {R = R} {count = count} f k part none = starts_as (members own) (having (members own) f k) (having R f k) l q count
    (λ n x. having_in R f k n (part.whole none n (having_within (members own) f k n x)) (having_is (members own) f k n x))
    (λ n x. having_in (members own) f k n (part.within n (having_within R f k n x)) (having_is R f k n x))
