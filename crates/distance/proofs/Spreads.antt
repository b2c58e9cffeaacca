-- Numbers spread from the target: before the first, one place looked at, the next of the queue, after the last.
use Rattle.std.proofs.Common.{◌≡◌, ℕ, ◌+◌, ◌*◌, ◌<◌, ◌≤◌, Bool, true, false, cond, ◌||◌, T, eqb, ltb, ◌⊎◌, List, [], length, get_or, set, sym, refl, ap, ◌∙◌, subst, inl, inr, arith}
use Rattle.std.proofs.lemmas.List.{get_or-set_same, get_or-set_other}
use Rattle.std.proofs.lemmas.Bool.{cases_eq, cases_lt, cases_Bool, eq-eqb, ne_eqb, lt-ltb, le-ltb}
use Rattle.endless.specs.Games.{Game, Reads, whose, May}
use Rattle.endless.specs.Says.{goes}
use Rattle.endless.specs.Sets.{In}
use Rattle.endless.specs.Graph.{moves, times}
use Rattle.endless.specs.Pulling.{Passed, Unchanged}
use Rattle.endless.proofs.Places.{ok_size, some_moves, to_place}
use Rattle.endless.proofs.Pigeonhole.{pigeonhole}
use Rattle.endless.proofs.CountLaws.{one_if, one_itself, one_other}
use Rattle.endless.proofs.Sources.{among_times}
use Rattle.endless.proofs.Working.{goes_at, unchanged_goes}
use Rattle.distance.specs.Sooner.{never}
use Rattle.distance.specs.Spreading.{number, missing, Measured, Spread, Kept}
use Rattle.distance.specs.Distances.{Cleared}
use Rattle.distance.proofs.Missing.{nothing, missing_all, together, missing_less, missing_none, missing_some}

-- ---- before the first: the target has the number 0, and no other place has one

module _ {s : List ℕ} {g : Game} (reads : Reads s g) (w : ℕ) (queue : List ℕ) {target : ℕ} {before out awaited : List ℕ} (clear : Cleared g (length g) before out awaited) (place : target < length g) (room : 2 * length g ≤ length out) (space : 0 < length queue) where
  abbrev first_out : List ℕ
  first_out = set out (2 * target) 0

  abbrev first_queue : List ℕ
  first_queue = set queue 0 target

  at_target : number first_out target ≡ 0
  at_target = get_or-set_same out (2 * target) 0 0 (omega arith)

  elsewhere : (n : ℕ) → (n ≡ target → ⊥) → number first_out n ≡ number out n
  elsewhere n d = get_or-set_other out (2 * target) (2 * n) 0 0 (λ e. d (omega arith))

  same_move : (n : ℕ) → get_or first_out (2 * n + 1) 0 ≡ get_or out (2 * n + 1) 0
  same_move n = get_or-set_other out (2 * target) (2 * n + 1) 0 0 (λ e. omega arith)

  same_goes : (n : ℕ) → goes first_out n ≡ goes out n
  same_goes n = goes_at first_out n ∙ same_move n ∙ sym (goes_at out n)

  unnumbered : (n : ℕ) → n < length g → (n ≡ target → ⊥) → number first_out n ≡ never
  unnumbered n l d = elsewhere n d ∙ clear.numbers n l

  alone : (j : ℕ) → j < 1 → get_or first_queue j 0 ≡ target
  alone j h = let e : j ≡ 0 = omega arith in ap (λ (i : ℕ). get_or first_queue i 0) e ∙ get_or-set_same queue 0 target 0 space

  alone_number : (j : ℕ) → j < 1 → number first_out (get_or first_queue j 0) ≡ 0
  alone_number j h = ap (number first_out) (alone j h) ∙ at_target

  pub spread_first : Spread g w target before 0 [] first_out first_queue awaited 1
  spread_first = record {
    order = omega arith;
    most = omega arith;
    behind = λ n h. let c = clear.behind n h in (elsewhere n (λ e. omega arith) ∙ c.0, same_move n ∙ c.1);
    zero_at = at_target;
    at_zero = λ n l e. at_zero n l e (cases_eq n target);
    placed = λ j h. omega (arith, alone j h);
    small = λ j h. omega (arith, alone_number j h);
    apart = λ i j a b. absurd (omega arith);
    rising = λ i j a b. omega (arith, alone_number i (let h : i < 1 = omega arith in h), alone_number j b);
    near = λ j a b. omega (arith, alone_number j b);
    listed = λ n l. listed n l (cases_eq n target);
    may = λ n l. subst (May g n) (sym (same_goes n)) (clear.may n l);
    falls = λ n l h d. absurd (omega (arith, unnumbered n l d));
    forced = λ n m l o h d. absurd (omega (arith, unnumbered n l d));
    own = λ n m e a p. absurd (omega (arith, p.1));
    own_seen = λ n e h. absurd (omega arith);
    gone = nothing;
    gone_passed = λ m x. elim x [ ];
    passed_gone = λ m p. absurd (omega (arith, p.1));
    waits = λ n l o e. (omega (arith, clear.counts n l, some_moves reads n l), omega (arith, clear.counts n l, missing_all (moves g n)));
  }
    where
      at_zero : (n : ℕ) → n < length g → number first_out n ≡ 0 → (n ≡ target) ⊎ (n ≡ target → ⊥) → n ≡ target
      at_zero n l e (inl is) = is
      at_zero n l e (inr d) = absurd (omega (arith, unnumbered n l d))

      listed : (n : ℕ) → n < length g → (n ≡ target) ⊎ (n ≡ target → ⊥) → (number first_out n ≡ never) ⊎ Passed first_queue 1 n
      listed n l (inl is) = inr (0, omega arith, alone 0 (omega arith) ∙ sym is)
      listed n l (inr d) = inl (unnumbered n l d)

module _ {s : List ℕ} {g : Game} (reads : Reads s g) {w target : ℕ} {before : List ℕ} {head : ℕ} {seen out queue awaited : List ℕ} {tail : ℕ} (st : Spread g w target before head seen out queue awaited tail) where
  few : length g ≤ 16384
  few = (ok_size s g reads).1

  pub queued_small : (j : ℕ) → j < tail → number out (get_or queue j 0) + 1 < never
  queued_small j h = omega (arith, st.small j h, st.most, few)

  numbered : (n : ℕ) → n < length g → (number out n ≡ never → ⊥) → Passed queue tail n
  numbered n l d = go (st.listed n l)
    where
      go : (number out n ≡ never) ⊎ Passed queue tail n → Passed queue tail n
      go (inl e) = absurd (d e)
      go (inr p) = p

  -- a place without a number is not in the queue, so this is not full
  pub spread_room : (from : ℕ) → from < length g → number out from ≡ never → tail < length g
  spread_room from here none = go (cases_lt tail (length g))
    where
      f : ℕ → ℕ
      f j = cond (ltb j tail) (get_or queue j 0) from

      front : (j : ℕ) → j < tail → f j ≡ get_or queue j 0
      front j h = ap (λ (b : Bool). cond b (get_or queue j 0) from) (lt-ltb j tail h)

      last : (j : ℕ) → tail ≤ j → f j ≡ from
      last j h = ap (λ (b : Bool). cond b (get_or queue j 0) from) (le-ltb j tail h)

      inside : (j : ℕ) → (j < tail) ⊎ (tail ≤ j) → f j < length g
      inside j (inl h) = omega (arith, front j h, st.placed j h)
      inside j (inr h) = omega (arith, last j h)

      apart : (i j : ℕ) → i < j → j ≤ tail → f i ≡ f j → (j < tail) ⊎ (tail ≤ j) → ⊥
      apart i j l m e (inl h) = st.apart i j l h (sym (front i (omega arith)) ∙ e ∙ front j h)
      apart i j l m e (inr h) =
          let same : number out (get_or queue i 0) ≡ number out from = ap (number out) (sym (front i (omega arith)) ∙ e ∙ last j h) in
          omega (arith, queued_small i (omega arith))

      go : (tail < length g) ⊎ (length g ≤ tail) → tail < length g
      go (inl h) = h
      go (inr h) =
          let t = pigeonhole (length g) f (λ j l. inside j (cases_lt j tail)) in
          absurd (apart t.0 t.1 t.2 (omega (arith, t.3)) t.4 (cases_lt t.1 tail))

  -- more is seen, and less awaited
  seen_more : (seen' awaited' : List ℕ) → ((n : ℕ) → whose g n ≡ w → 0 < times n seen' → number out n ≤ number out (get_or queue head 0) + 1) →
      ((n : ℕ) → n < length g → (whose g n ≡ w → ⊥) → number out n ≡ never → (0 < get_or awaited' n 0) × (get_or awaited' n 0 + times n seen' ≡ missing st.gone (moves g n))) → Spread g w target before head seen' out queue awaited' tail
  seen_more seen' awaited' own waits = record {
    order = st.order;
    most = st.most;
    behind = st.behind;
    zero_at = st.zero_at;
    at_zero = st.at_zero;
    placed = st.placed;
    small = st.small;
    apart = st.apart;
    rising = st.rising;
    near = st.near;
    listed = st.listed;
    may = st.may;
    falls = st.falls;
    forced = st.forced;
    own = st.own;
    own_seen = own;
    gone = st.gone;
    gone_passed = st.gone_passed;
    passed_gone = st.passed_gone;
    waits = waits;
  }

  -- the place at the head is not among those gone through
  head_not_gone : head < tail → st.gone (get_or queue head 0) ≡ false
  head_not_gone inside = go (cases_Bool (st.gone (get_or queue head 0)))
    where
      go : (st.gone (get_or queue head 0) ≡ true) ⊎ (st.gone (get_or queue head 0) ≡ false) → st.gone (get_or queue head 0) ≡ false
      go (inl t) = let p = st.gone_passed (get_or queue head 0) (subst T (sym t) tt) in absurd (st.apart p.0 head p.1 inside p.2)
      go (inr f) = f

  -- ---- the next of the queue, where all that may move to the last has been seen

  pub spread_next : head < tail → ((n : ℕ) → times n seen ≡ times (get_or queue head 0) (moves g n)) → Spread g w target before (head + 1) [] out queue awaited tail
  spread_next inside all = record {
    order = omega arith;
    most = st.most;
    behind = st.behind;
    zero_at = st.zero_at;
    at_zero = st.at_zero;
    placed = st.placed;
    small = st.small;
    apart = st.apart;
    rising = st.rising;
    near = λ j a b. omega (arith, st.near j inside b, st.rising head (head + 1) (omega arith) a);
    listed = st.listed;
    may = st.may;
    falls = st.falls;
    forced = st.forced;
    own = λ n m e a p. own n m e a p (cases_lt p.0 head);
    own_seen = λ n e h. absurd (omega arith);
    gone = together st.gone (get_or queue head 0);
    gone_passed = λ m x. gone_passed m x (cases_eq m (get_or queue head 0));
    passed_gone = λ m p. passed_gone m p (cases_eq m (get_or queue head 0));
    waits = λ n l o e. let t = st.waits n l o e in (t.0, omega (arith, t.1, all n, missing_less st.gone (get_or queue head 0) (moves g n) (head_not_gone inside)));
  }
    where
      own : (n m : ℕ) → whose g n ≡ w → May g n m → (p : Passed queue (head + 1) m) → (p.0 < head) ⊎ (head ≤ p.0) → number out n ≤ number out m + 1
      own n m e a p (inl h) = st.own n m e a (p.0, h, p.2)
      own n m e a p (inr h) =
          let is : m ≡ get_or queue head 0 = sym p.2 ∙ ap (λ (i : ℕ). get_or queue i 0) (let x : p.0 ≡ head = omega (arith, p.1) in x) in
          let same : number out m ≡ number out (get_or queue head 0) = ap (number out) is in
          let some : times m (moves g n) ≡ times (get_or queue head 0) (moves g n) = ap (λ (x : ℕ). times x (moves g n)) is in
          omega (arith, st.own_seen n e (omega (arith, all n, among_times m (moves g n) a)))

      gone_passed : (m : ℕ) → In (together st.gone (get_or queue head 0)) m → (m ≡ get_or queue head 0) ⊎ (m ≡ get_or queue head 0 → ⊥) → Passed queue (head + 1) m
      gone_passed m x (inl e) = (head, omega arith, sym e)
      gone_passed m x (inr d) =
          let p = st.gone_passed m (subst T (ap (λ (b : Bool). b || st.gone m) (ne_eqb m (get_or queue head 0) d)) x) in
          (p.0, omega (arith, p.1), p.2)

      passed_gone : (m : ℕ) → Passed queue (head + 1) m → (m ≡ get_or queue head 0) ⊎ (m ≡ get_or queue head 0 → ⊥) → In (together st.gone (get_or queue head 0)) m
      passed_gone m p (inl e) = subst T (sym (ap (λ (b : Bool). b || st.gone m) (eq-eqb m (get_or queue head 0) e))) tt
      passed_gone m p (inr d) = subst T (sym (ap (λ (b : Bool). b || st.gone m) (ne_eqb m (get_or queue head 0) d))) (st.passed_gone m (p.0, before_head p.0 p.1 p.2 (cases_eq p.0 head), p.2))
        where
          before_head : (j : ℕ) → j < head + 1 → get_or queue j 0 ≡ m → (j ≡ head) ⊎ (j ≡ head → ⊥) → j < head
          before_head j h e (inl is) = absurd (d (sym e ∙ ap (λ (i : ℕ). get_or queue i 0) is))
          before_head j h e (inr x) = omega arith

  -- ---- one place is looked at, which may move to the one at the head

  module _ {from : ℕ} (seen' : List ℕ) (here : from < length g) (inside : head < tail) (more : (n : ℕ) → times n seen' ≡ times n seen + one_if (eqb from n)) where
    seen_else : (n : ℕ) → (n ≡ from → ⊥) → times n seen' ≡ times n seen
    seen_else n d = omega (arith, more n, one_other from n (λ e. d (sym e)))

    seen_here : times from seen' ≡ times from seen + 1
    seen_here = omega (arith, more from, one_itself from from refl)

    -- it has a number
    pub spread_stays : (number out from ≡ never → ⊥) → Spread g w target before head seen' out queue awaited tail
    spread_stays d = seen_more seen' awaited (λ n e h. own n e h (cases_eq n from)) (λ n l o e. let t = st.waits n l o e in (t.0, omega (arith, t.1, seen_else n (λ is. d (ap (number out) (sym is) ∙ e)))))
      where
        own : (n : ℕ) → whose g n ≡ w → 0 < times n seen' → (n ≡ from) ⊎ (n ≡ from → ⊥) → number out n ≤ number out (get_or queue head 0) + 1
        own n e h (inl is) =
            let p = numbered from here d in
            let same : number out (get_or queue p.0 0) ≡ number out n = ap (number out) (p.2 ∙ sym is) in
            omega (arith, st.near p.0 inside p.1)
        own n e h (inr x) = st.own_seen n e (omega (arith, seen_else n x))

    -- it is the other side's, and not the last of its moves
    pub spread_waits : (awaited' : List ℕ) → (whose g from ≡ w → ⊥) → number out from ≡ never → ((n : ℕ) → (n ≡ from → ⊥) → get_or awaited' n 0 ≡ get_or awaited n 0) → get_or awaited' from 0 + 1 ≡ get_or awaited from 0 → 0 < get_or awaited' from 0 → Spread g w target before head seen' out queue awaited' tail
    spread_waits awaited' theirs none kept less some = seen_more seen' awaited' (λ n e h. st.own_seen n e (omega (arith, seen_else n (λ is. theirs (ap (whose g) (sym is) ∙ e))))) (λ n l o e. waits n l o e (cases_eq n from))
      where
        waits : (n : ℕ) → n < length g → (whose g n ≡ w → ⊥) → number out n ≡ never → (n ≡ from) ⊎ (n ≡ from → ⊥) → (0 < get_or awaited' n 0) × (get_or awaited' n 0 + times n seen' ≡ missing st.gone (moves g n))
        waits n l o e (inl is) = subst (λ (k : ℕ). (0 < get_or awaited' k 0) × (get_or awaited' k 0 + times k seen' ≡ missing st.gone (moves g k))) (sym is) (some, omega (arith, (st.waits from here theirs none).1, seen_here))
        waits n l o e (inr d) = let t = st.waits n l o e in (omega (arith, t.0, kept n d), omega (arith, t.1, kept n d, seen_else n d))

    -- the last of its moves: then all lead to places gone through, or to the one at the head
    pub all_in : (whose g from ≡ w → ⊥) → number out from ≡ never → get_or awaited from 0 ≡ 1 → times from seen + 1 ≤ times (get_or queue head 0) (moves g from) → (m : ℕ) → May g from m → number out m ≤ number out (get_or queue head 0)
    all_in theirs none one enough m a =
        let t = st.waits from here theirs none in
        go (missing_none (together st.gone (get_or queue head 0)) (moves g from) (omega (arith, t.1, missing_less st.gone (get_or queue head 0) (moves g from) (head_not_gone inside))) m a) (cases_eq m (get_or queue head 0))
      where
        go : In (together st.gone (get_or queue head 0)) m → (m ≡ get_or queue head 0) ⊎ (m ≡ get_or queue head 0 → ⊥) → number out m ≤ number out (get_or queue head 0)
        go x (inl e) = let same : number out m ≡ number out (get_or queue head 0) = ap (number out) e in omega arith
        go x (inr d) =
            let p = st.gone_passed m (subst T (ap (λ (b : Bool). b || st.gone m) (ne_eqb m (get_or queue head 0) d)) x) in
            let same : number out (get_or queue p.0 0) ≡ number out m = ap (number out) p.2 in
            omega (arith, st.rising p.0 head (omega (arith, p.1)) inside)

    -- it comes
    module _ {next : ℕ} (out' queue' awaited' : List ℕ) (next_is : next ≡ number out (get_or queue head 0) + 1) (none : number out from ≡ never)
        (goes-there : May g from (get_or queue head 0)) (all : (whose g from ≡ w → ⊥) → (m : ℕ) → May g from m → number out m ≤ number out (get_or queue head 0))
        (same : (n : ℕ) → (n ≡ from → ⊥) → Unchanged out out' n) (gets : number out' from ≡ next) (moves_to : goes out' from ≡ get_or queue head 0)
        (front : (j : ℕ) → j < tail → get_or queue' j 0 ≡ get_or queue j 0) (last : get_or queue' tail 0 ≡ from) (kept : (n : ℕ) → (n ≡ from → ⊥) → get_or awaited' n 0 ≡ get_or awaited n 0) where
      abbrev to : ℕ
      to = get_or queue head 0

      not_from : (n : ℕ) → number out n < never → n ≡ from → ⊥
      not_from n h e = let z : number out n ≡ number out from = ap (number out) e in omega arith

      queued_not : (j : ℕ) → j < tail → get_or queue j 0 ≡ from → ⊥
      queued_not j h = not_from (get_or queue j 0) (omega (arith, queued_small j h))

      number_at : (j : ℕ) → j < tail → number out' (get_or queue' j 0) ≡ number out (get_or queue j 0)
      number_at j h = ap (number out') (front j h) ∙ (same (get_or queue j 0) (queued_not j h)).0

      number_last : (j : ℕ) → j ≡ tail → number out' (get_or queue' j 0) ≡ next
      number_last j e = ap (λ (i : ℕ). number out' (get_or queue' i 0)) e ∙ ap (number out') last ∙ gets

      which : (j : ℕ) → j < tail + 1 → (j < tail) ⊎ (j ≡ tail)
      which j h = go (cases_lt j tail)
        where
          go : (j < tail) ⊎ (tail ≤ j) → (j < tail) ⊎ (j ≡ tail)
          go (inl l) = inl l
          go (inr l) = inr (omega arith)

      placed : (j : ℕ) → (j < tail) ⊎ (j ≡ tail) → get_or queue' j 0 < length g
      placed j (inl h) = omega (arith, front j h, st.placed j h)
      placed j (inr e) = let is : get_or queue' j 0 ≡ from = ap (λ (i : ℕ). get_or queue' i 0) e ∙ last in omega arith

      apart : (i j : ℕ) → i < j → (j < tail) ⊎ (j ≡ tail) → get_or queue' i 0 ≡ get_or queue' j 0 → ⊥
      apart i j l (inl h) e = st.apart i j l h (sym (front i (omega arith)) ∙ e ∙ front j h)
      apart i j l (inr is) e = queued_not i (omega arith) (sym (front i (omega arith)) ∙ e ∙ ap (λ (k : ℕ). get_or queue' k 0) is ∙ last)

      small : (j : ℕ) → (j < tail) ⊎ (j ≡ tail) → number out' (get_or queue' j 0) ≤ j
      small j (inl h) = omega (arith, number_at j h, st.small j h)
      small j (inr e) = omega (arith, number_last j e, st.small head inside)

      rising : (i j : ℕ) → i ≤ j → (i < tail) ⊎ (i ≡ tail) → (j < tail) ⊎ (j ≡ tail) → number out' (get_or queue' i 0) ≤ number out' (get_or queue' j 0)
      rising i j l (inl a) (inl b) = omega (arith, number_at i a, number_at j b, st.rising i j l b)
      rising i j l (inl a) (inr b) = omega (arith, number_at i a, number_last j b, st.near i inside a)
      rising i j l (inr a) (inl b) = absurd (omega arith)
      rising i j l (inr a) (inr b) = omega (arith, number_last i a, number_last j b)

      near : (j : ℕ) → (j < tail) ⊎ (j ≡ tail) → number out' (get_or queue' j 0) ≤ number out' (get_or queue' head 0) + 1
      near j (inl h) = omega (arith, number_at j h, number_at head inside, st.near j inside h)
      near j (inr e) = omega (arith, number_last j e, number_at head inside)

      listed : (n : ℕ) → (n ≡ from) ⊎ (n ≡ from → ⊥) → (number out n ≡ never) ⊎ Passed queue tail n → (number out' n ≡ never) ⊎ Passed queue' (tail + 1) n
      listed n (inl e) x = inr (tail, omega arith, last ∙ sym e)
      listed n (inr d) (inl e) = inl ((same n d).0 ∙ e)
      listed n (inr d) (inr p) = inr (p.0, omega (arith, p.1), front p.0 p.1 ∙ p.2)

      may : (n : ℕ) → n < length g → (n ≡ from) ⊎ (n ≡ from → ⊥) → May g n (goes out' n)
      may n l (inl e) = subst (λ (k : ℕ). May g k (goes out' k)) (sym e) (subst (May g from) (sym moves_to) goes-there)
      may n l (inr d) = subst (May g n) (sym (unchanged_goes out out' n (same n d))) (st.may n l)

      number_to : number out' to ≡ number out to
      number_to = (same to (queued_not head inside)).0

      falls : (n : ℕ) → n < length g → number out' n < never → (n ≡ target → ⊥) → (n ≡ from) ⊎ (n ≡ from → ⊥) → number out' (goes out' n) + 1 ≡ number out' n
      falls n l h d (inl e) =
          let a : number out' (goes out' n) ≡ number out' to = ap (number out') (ap (goes out') e ∙ moves_to) in
          let b : number out' n ≡ next = ap (number out') e ∙ gets in
          omega (arith, number_to)
      falls n l h d (inr x) =
          let a : number out' n ≡ number out n = (same n x).0 in
          let f = st.falls n l (omega arith) d in
          let b : number out' (goes out' n) ≡ number out (goes out n) = ap (number out') (unchanged_goes out out' n (same n x)) ∙ (same (goes out n) (not_from (goes out n) (omega arith))).0 in
          omega arith

      forced : (n m : ℕ) → n < length g → (whose g n ≡ w → ⊥) → number out' n < never → (n ≡ target → ⊥) → May g n m → (n ≡ from) ⊎ (n ≡ from → ⊥) → number out' m + 1 ≤ number out' n
      forced n m l o h d a (inl e) =
          let b : number out' n ≡ next = ap (number out') e ∙ gets in
          let c = all (λ x. o (ap (whose g) e ∙ x)) m (subst (λ (k : ℕ). May g k m) e a) in
          let f : number out' m ≡ number out m = (same m (not_from m (omega (arith, queued_small head inside)))).0 in
          omega arith
      forced n m l o h d a (inr x) =
          let b : number out' n ≡ number out n = (same n x).0 in
          let c = st.forced n m l o (omega arith) d a in
          let f : number out' m ≡ number out m = (same m (not_from m (omega arith))).0 in
          omega arith

      own : (n m : ℕ) → whose g n ≡ w → May g n m → Passed queue head m → (n ≡ from) ⊎ (n ≡ from → ⊥) → number out' n ≤ number out' m + 1
      own n m e a p x =
          let c = st.own n m e a p in
          let b : number out (get_or queue p.0 0) ≡ number out m = ap (number out) p.2 in
          let q = queued_small p.0 (omega (arith, p.1)) in
          let f : number out' m ≡ number out m = (same m (not_from m (omega arith))).0 in
          let y = not_from n (omega arith) in
          omega (arith, (same n y).0)

      own_seen : (n : ℕ) → whose g n ≡ w → 0 < times n seen' → (n ≡ from) ⊎ (n ≡ from → ⊥) → number out' n ≤ number out' (get_or queue' head 0) + 1
      own_seen n e h (inl is) = let b : number out' n ≡ next = ap (number out') is ∙ gets in omega (arith, number_at head inside)
      own_seen n e h (inr d) = omega (arith, (same n d).0, number_at head inside, st.own_seen n e (omega (arith, seen_else n d)))

      waits : (n : ℕ) → n < length g → (whose g n ≡ w → ⊥) → number out' n ≡ never → (n ≡ from) ⊎ (n ≡ from → ⊥) → (0 < get_or awaited' n 0) × (get_or awaited' n 0 + times n seen' ≡ missing st.gone (moves g n))
      waits n l o e (inl is) = let b : number out' n ≡ next = ap (number out') is ∙ gets in absurd (omega (arith, queued_small head inside))
      waits n l o e (inr d) =
          let t = st.waits n l o (sym (same n d).0 ∙ e) in
          (omega (arith, t.0, kept n d), omega (arith, t.1, kept n d, seen_else n d))

      at_zero : (n : ℕ) → n < length g → number out' n ≡ 0 → (n ≡ from) ⊎ (n ≡ from → ⊥) → n ≡ target
      at_zero n l e (inl is) = let b : number out' n ≡ next = ap (number out') is ∙ gets in absurd (omega arith)
      at_zero n l e (inr d) = st.at_zero n l (sym (same n d).0 ∙ e)

      pub spread_comes : Spread g w target before head seen' out' queue' awaited' (tail + 1)
      spread_comes = record {
        order = omega (arith, st.order);
        most = omega (arith, spread_room from here none);
        behind = λ n h. let a = st.behind n h in let b = same n (λ e. omega arith) in (b.0 ∙ a.0, b.1 ∙ a.1);
        zero_at = (same target (not_from target (omega (arith, st.zero_at)))).0 ∙ st.zero_at;
        at_zero = λ n l e. at_zero n l e (cases_eq n from);
        placed = λ j h. placed j (which j h);
        small = λ j h. small j (which j h);
        apart = λ i j l h. apart i j l (which j h);
        rising = λ i j l h. rising i j l (which i (omega arith)) (which j h);
        near = λ j a h. near j (which j h);
        listed = λ n l. listed n (cases_eq n from) (st.listed n l);
        may = λ n l. may n l (cases_eq n from);
        falls = λ n l h d. falls n l h d (cases_eq n from);
        forced = λ n m l o h d a. forced n m l o h d a (cases_eq n from);
        own = λ n m e a p. own n m e a (p.0, p.1, sym (front p.0 (omega (arith, p.1))) ∙ p.2) (cases_eq n from);
        own_seen = λ n e h. own_seen n e h (cases_eq n from);
        gone = st.gone;
        gone_passed = λ m x. let p = st.gone_passed m x in (p.0, p.1, front p.0 (omega (arith, p.1)) ∙ p.2);
        passed_gone = λ m p. st.passed_gone m (p.0, p.1, sym (front p.0 (omega (arith, p.1))) ∙ p.2);
        waits = λ n l o e. waits n l o e (cases_eq n from);
      }

      pub comes_kept : Kept out queue tail out' queue' (tail + 1)
      comes_kept = record { grows = omega arith; front = front; numbers = λ j h. (same (get_or queue j 0) (queued_not j h)).0 }

-- ---- after the last

module _ {s : List ℕ} {g : Game} (reads : Reads s g) {w target : ℕ} {before : List ℕ} {head : ℕ} {out queue awaited : List ℕ} {tail : ℕ} (st : Spread g w target before head [] out queue awaited tail) (end : tail ≤ head) where
  end_size : (n : ℕ) → (number out n ≡ never) ⊎ Passed queue tail n → (number out n ≡ never) ⊎ (number out n < length g)
  end_size n (inl e) = inl e
  end_size n (inr p) = let same : number out (get_or queue p.0 0) ≡ number out n = ap (number out) p.2 in inr (omega (arith, p.1, st.small p.0 p.1, st.most))

  end_own : (n m : ℕ) → whose g n ≡ w → May g n m → number out m < never → (number out m ≡ never) ⊎ Passed queue tail m → number out n ≤ number out m + 1
  end_own n m e a h (inl x) = absurd (omega arith)
  end_own n m e a h (inr p) = st.own n m e a (p.0, omega (arith, p.1), p.2)

  end_past : (m : ℕ) → st.gone m ≡ false → (number out m ≡ never) ⊎ Passed queue tail m → number out m ≡ never
  end_past m f (inl e) = e
  end_past m f (inr p) = absurd (elim (subst T f (st.passed_gone m (p.0, omega (arith, p.1), p.2))) [ ])

  pub spread_last : Measured g w target (number out) (goes out)
  spread_last = record {
    size = λ n l. end_size n (st.listed n l);
    zero_at = st.zero_at;
    at_zero = st.at_zero;
    may = st.may;
    falls = st.falls;
    own = λ n m e a h. end_own n m e a h (st.listed m (to_place reads n m a));
    forced = st.forced;
    past = λ n l o e.
        let t = st.waits n l o e in
        let u = missing_some st.gone (moves g n) (omega (arith, t.0, t.1)) in
        (u.0, u.1, end_past u.0 u.2 (st.listed u.0 (to_place reads n u.0 u.1)));
  }
