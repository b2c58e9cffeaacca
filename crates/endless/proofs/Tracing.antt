-- A search back from a place: its state over one step, over the places that may move to one, and over the queue.
use Rattle.std.proofs.Common.{◌≡◌, ℕ, ◌+◌, ◌<◌, ◌≤◌, ◌⊎◌, List, [], ◌∷◌, length, get_or, drop, sym, refl, ap, ◌∙◌, subst, ⊎_elim, inl, inr, arith}
use Rattle.std.proofs.lemmas.List.{drop_more, drop_all}
use Rattle.std.proofs.lemmas.Bool.{cases_eq, cases_lt}
use Rattle.endless.specs.Games.{Game, whose, weight, Among, first, later, May}
use Rattle.endless.specs.Says.{Round, last, then1, goes}
use Rattle.endless.specs.Sets.{Set, In, Out, Each}
use Rattle.endless.specs.Bits.{members, size}
use Rattle.endless.specs.Pulling.{Passed, Moved}
use Rattle.endless.specs.Flaws.{Step, Walk}
use Rattle.endless.specs.Tracing.{Tracing, Remained, Joined, Same, Visited, Went, Comes, Searching, Searched, Traces}
use Rattle.endless.specs.Sides.{number}
use Rattle.endless.specs.declared.search_back.SearchBack.{SearchBack}
use Rattle.endless.proofs.Tests.{T_true}
use Rattle.endless.proofs.Sets.{in_or_out}
use Rattle.endless.proofs.Looking.{Lists, may_at}
use Rattle.endless.proofs.Among.{none_among}
use Rattle.endless.proofs.Pushed.{pushed_front, pushed_before, pushed_each, pushed_passed}
use Rattle.endless.proofs.Removed.{removed_out, removed_within, removed_still}
use Rattle.endless.proofs.Working.{moved_none, moved_one, moved_then}

-- one step more at the front of a walk
pub walk_more : (g : Game) (X : Set) (w : ℕ) (plan : ℕ → ℕ) (k n m x : ℕ) → Step g w plan n m → In X n → weight g n ≤ k → (m ≡ x) ⊎ (In X m × Walk g X w plan k m x) → Walk g X w plan k n x
walk_more g X w plan k n m x s i l (inl e) = let t = subst (λ (j : ℕ). Step g w plan n j) e s in (n ∷ [], last t.0 t.1, ((i, l), tt))
walk_more g X w plan k n m x s i l (inr t) = (n ∷ t.1.0, then1 s.0 s.1 t.1.1, ((i, l), t.1.2))

-- one place is looked at
abbrev Visits : Game → ℕ → (ℕ → ℕ) → ℕ → ℕ → ℕ → ℕ → List ℕ → List ℕ → List ℕ → List ℕ → ℕ → Type 0
Visits g w plan k from to tail left queue left' queue' r =
    ((r ≡ tail) × Remained g w plan k from to left queue left' queue') ⊎ ((r ≡ tail + 1) × Joined g w plan k from to tail left queue left' queue')

-- what moved
visited_moves : (g : Game) (w : ℕ) (plan : ℕ → ℕ) (k from to tail : ℕ) (left queue left' queue' : List ℕ) (r : ℕ) → tail + size left ≤ length queue → Visits g w plan k from to tail left queue left' queue' r → Moved left queue tail left' queue' r
visited_moves g w plan k from to tail left queue left' queue' r space (inl t) =
    let s = t.1 in
    rw (s.left_is, s.queue_is, t.0) (moved_none left queue tail)
visited_moves g w plan k from to tail left queue left' queue' r space (inr t) =
    let c = t.1 in
    rw t.0 (moved_one left queue tail from left' queue' space c.was c.left_is c.queue_is)

-- what is left and steps to `to` is among the places yet to be looked at
abbrev Awaits : Game → ℕ → (ℕ → ℕ) → ℕ → ℕ → List ℕ → List ℕ → Type 0
Awaits g w plan k to left ns = (n : ℕ) → In (members left) n → weight g n ≤ k → Step g w plan n to → Among n ns

module _ (g : Game) (w : ℕ) (plan : ℕ → ℕ) (k from to tail : ℕ) (left queue left' queue' : List ℕ) (X : Set) (x head : ℕ) (may : May g from to)
    (order : head ≤ tail) (comes : (to ≡ x) ⊎ (In X to × Walk g X w plan k to x)) (so_far : Tracing g X w plan k x (members left) queue head tail) (ns : List ℕ) (waits : Awaits g w plan k to left (from ∷ ns)) where
  passed_by : (n : ℕ) → (n ≡ from → ⊥) → Among n (from ∷ ns) → Among n ns
  passed_by n d first = absurd (d refl)
  passed_by n d (later a) = a

  remained : Remained g w plan k from to left queue left' queue' → Awaits g w plan k to left ns
  remained s n i l step = go (cases_eq n from)
    where
      go : (n ≡ from) ⊎ (n ≡ from → ⊥) → Among n ns
      go (inl e) = absurd (s.why (subst (λ (j : ℕ). In (members left) j) e i) (subst (λ (j : ℕ). weight g j ≤ k) e l) (λ q. subst (λ (j : ℕ). whose g j ≡ w → to ≡ plan j) e step.1 q))
      go (inr d) = passed_by n d (waits n i l step)

  module _ (space : tail < length queue) (c : Joined g w plan k from to tail left queue left' queue') where
    inside : In X from
    inside = so_far.within from c.was

    walk : Walk g X w plan k from x
    walk = walk_more g X w plan k from to x (may, c.by_plan) inside c.light comes

    joined : Tracing g X w plan k x (members left') queue' head (tail + 1)
    joined = record {
      within = λ n y. so_far.within n (removed_within left from left' c.left_is n y);
      first = pushed_front queue tail from c.queue_is 0 so_far.some_first ∙ so_far.first;
      some_first = omega (arith, so_far.some_first);
      queued = pushed_each queue tail from c.queue_is space (λ n. (n ≡ x) ⊎ (In X n × Walk g X w plan k n x)) so_far.queued (inr (inside, walk));
      walks = λ n y o. walks n y o (cases_eq n from);
      listed = λ n y o. pushed_passed queue tail from c.queue_is space n (⊎_elim (λ e. inl e) (λ d. inr (so_far.listed n y (removed_still left from left' c.left_is n d o))) (cases_eq n from));
      looked = λ n m y l p s. so_far.looked n m (removed_within left from left' c.left_is n y) l (pushed_before queue tail from c.queue_is head m order p) s;
    }
      where
        walks : (n : ℕ) → In X n → Out (members left') n → (n ≡ from) ⊎ (n ≡ from → ⊥) → Walk g X w plan k n x
        walks n y o (inl e) = subst (λ (j : ℕ). Walk g X w plan k j x) (sym e) walk
        walks n y o (inr d) = so_far.walks n y (removed_still left from left' c.left_is n d o)

    joined_waits : Awaits g w plan k to left' ns
    joined_waits n y l step = go (cases_eq n from)
      where
        go : (n ≡ from) ⊎ (n ≡ from → ⊥) → Among n ns
        go (inl e) = absurd (removed_out left from left' c.left_is (subst (λ (j : ℕ). In (members left') j) e y))
        go (inr d) = passed_by n d (waits n (removed_within left from left' c.left_is n y) l step)

  tracing_step : (r : ℕ) → tail + size left ≤ length queue → Visits g w plan k from to tail left queue left' queue' r → Tracing g X w plan k x (members left') queue' head r × Awaits g w plan k to left' ns
  tracing_step r space (inl t) =
      let s = t.1 in (
        rw (s.left_is, s.queue_is, t.0) so_far,
        rw s.left_is (remained s),
      )
  tracing_step r space (inr t) =
      let c = t.1 in
      let room : tail < length queue = omega (arith, c.left_is.shrinks (T_true _ c.was)) in
      (rw t.0 (joined room c), joined_waits room c)

-- ---- a search goes by the same claim throughout

module _ (s t u : SearchBack) (same : Same s t) where
  same_then : Same t u → Same s u
  same_then then = record { claim = then.claim ∙ same.claim; heaviest = then.heaviest ∙ same.heaviest }

  visits : (from to : ℕ) → Visited t from to u → Visits s.claim.graph.now (number s.claim.side) (goes s.claim.answer.now) s.heaviest from to t.tail t.left.now t.queue.now u.left.now u.queue.now u.tail
  visits from to v = rw (← same.claim, ← same.heaviest) v

  searches : (to : ℕ) → Searched t to u → (X : Set) (x head : ℕ) → head ≤ t.tail → Comes s X to x → Searching s X x head t → Searching s X x head u × ((n : ℕ) → In (members u.left.now) n → weight s.claim.graph.now n ≤ s.heaviest → Step s.claim.graph.now (number s.claim.side) (goes s.claim.answer.now) n to → ⊥)
  searches to z = rw (← same.claim, ← same.heaviest) z

-- ---- the places that may move to one: i of them have been looked at

pub record Visiting (s : SearchBack) (to : ℕ) (items : List ℕ) (i : ℕ) (t : SearchBack) : Type 0 where
  pub same : Same s t
  pub went : Went s t
  pub works : (X : Set) (x head : ℕ) → head ≤ s.tail → Comes s X to x → Searching s X x head s → Searching s X x head t × Awaits s.claim.graph.now (number s.claim.side) (goes s.claim.answer.now) s.heaviest to t.left.now (drop i items)

pub visiting_more : {s t u : SearchBack} {to : ℕ} {items : List ℕ} {i : ℕ} → Lists s.claim.graph.now to items → i < length items → Visiting s to items i t → Same t u → Visited t (get_or items i 0) to u → Visiting s to items (i + 1) u
visiting_more {s} {t} {u} {to} {items} {i} lists h so_far same visited =
    let v = visits s t u so_far.same (get_or items i 0) to visited in
    let c = s.claim in
    record {
      same = same_then s t u so_far.same same;
      went = moved_then s.left.now s.queue.now s.tail t.left.now t.queue.now t.tail u.left.now u.queue.now u.tail so_far.went
          (visited_moves c.graph.now (number c.side) (goes c.answer.now) s.heaviest (get_or items i 0) to t.tail t.left.now t.queue.now u.left.now u.queue.now u.tail t.room v);
      works = λ X x head o comes work.
          let here = so_far.works X x head o comes work in
          tracing_step c.graph.now (number c.side) (goes c.answer.now) s.heaviest (get_or items i 0) to t.tail t.left.now t.queue.now u.left.now u.queue.now X x head (may_at c.graph.now to items lists i h) (omega (arith, so_far.went.grows)) comes here.0 (drop (i + 1) items)
          (λ n y b z. subst (λ (l : List ℕ). Among n l) (drop_more items i 0 h) (here.1 n y b z)) u.tail t.room v;
    }

pub visiting_all : {s t : SearchBack} {to : ℕ} {items : List ℕ} {i : ℕ} → length items ≤ i → Visiting s to items i t → Searched s to t
visiting_all {s} {t} {to} {items} {i} h so_far X x head o c work =
    let r = so_far.works X x head o c work in
    (r.0, λ n y b z. none_among n (drop i items) (drop_all i items h) (r.1 n y b z))

-- ---- the queue

pub record Queued (s : SearchBack) (head : ℕ) (t : SearchBack) : Type 0 where
  pub order : head ≤ t.tail
  pub same : Same s t
  pub went : Went s t
  pub works : Searching s (members s.left.now) (get_or s.queue.now 0 0) head t

pub queued_more : {s t u : SearchBack} {head : ℕ} → head < t.tail → Queued s head t → Same t u → Went t u → Searched t (get_or t.queue.now head 0) u → Queued s (head + 1) u
queued_more {s} {t} {u} {head} h so_far same went searched = record {
  order = omega (arith, went.grows);
  same = same_then s t u so_far.same same;
  went = moved_then s.left.now s.queue.now s.tail t.left.now t.queue.now t.tail u.left.now u.queue.now u.tail so_far.went went;
  works =
      let work = so_far.works in
      let r = searches s t u so_far.same (get_or t.queue.now head 0) searched (members s.left.now) (get_or s.queue.now 0 0) head (omega arith) (work.queued head h) work in
      let z = r.0 in
      record {
        within = z.within;
        first = z.first;
        some_first = z.some_first;
        queued = z.queued;
        walks = z.walks;
        listed = z.listed;
        looked = λ n j y b p step. looked z r.1 n j y b p step (cases_lt p.0 head);
      };
}
  where
    looked : Searching s (members s.left.now) (get_or s.queue.now 0 0) head u → ((n : ℕ) → In (members u.left.now) n → weight s.claim.graph.now n ≤ s.heaviest → Step s.claim.graph.now (number s.claim.side) (goes s.claim.answer.now) n (get_or t.queue.now head 0) → ⊥) →
        (n j : ℕ) → In (members u.left.now) n → weight s.claim.graph.now n ≤ s.heaviest → (p : Passed u.queue.now (head + 1) j) → Step s.claim.graph.now (number s.claim.side) (goes s.claim.answer.now) n j → (p.0 < head) ⊎ (head ≤ p.0) → ⊥
    looked z none n j y b p step (inl c) = z.looked n j y b (p.0, c, p.2) step
    looked z none n j y b p step (inr c) =
        let e : p.0 ≡ head = omega (arith, p.1) in
        let same : get_or t.queue.now head 0 ≡ j = sym (went.front head h) ∙ sym (ap (λ (i : ℕ). get_or u.queue.now i 0) e) ∙ p.2 in
        none n y b (subst (λ (i : ℕ). Step s.claim.graph.now (number s.claim.side) (goes s.claim.answer.now) n i) (sym same) step)

-- in the end
module _ {g : Game} {X : Set} {w : ℕ} {plan : ℕ → ℕ} {k x : ℕ} {L : Set} {queue : List ℕ} {head tail : ℕ} (end : tail ≤ head) (work : Tracing g X w plan k x L queue head tail) where
  wider : (n : ℕ) → Passed queue tail n → Passed queue head n
  wider n p = (p.0, omega (arith, p.1), p.2)

  unwalked : (n : ℕ) (ns : List ℕ) → Round g w plan n ns x → Each (λ j. In X j × (weight g j ≤ k)) ns → In L n → ⊥
  unwalked n ms (last a b) e y = work.looked n x y e.0.1 (0, omega (arith, work.some_first), work.first) (a, b)
  unwalked n ms (then1 {m = m} {ns = ns} a b r) e y = go (in_or_out L m) (unwalked m ns r e.1)
    where
      in_x : (j : ℕ) (js : List ℕ) → Round g w plan j js x → Each (λ j. In X j × (weight g j ≤ k)) js → In X j
      in_x j js (last a b) z = z.0.0
      in_x j js (then1 a b r) z = z.0.0

      go : In L m ⊎ Out L m → (In L m → ⊥) → ⊥
      go (inl i) earlier = earlier i
      go (inr o) earlier = work.looked n m y e.0.1 (wider m (work.listed m (in_x m ns r e.1) o)) (a, b)

  pub tracing_all : Traces g X w plan k x L
  tracing_all = record { within = work.within; some_walk = work.walks; no_walk = λ n y t. unwalked n t.0 t.1 t.2 y }
