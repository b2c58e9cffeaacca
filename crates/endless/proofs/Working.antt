-- The state of an attractor's work over one step: a place is looked at, and stays or comes.
use Rattle.std.proofs.Common.{◌≡◌, ℕ, ◌+◌, ◌-◌, ◌*◌, ◌<◌, ◌≤◌, ◌⊎◌, List, [], ◌∷◌, length, get_or, set, sym, refl, ap, ◌∙◌, subst, inl, inr, arith}
use mathlib.Core.Option.{Option}
use Rattle.std.proofs.lemmas.List.{get_or-set_same, get_or-set_other, get_or_past, length-set}
use Rattle.std.proofs.lemmas.Bool.{cases_eq, cases_lt, both_ways}
use Rattle.endless.specs.Games.{nth, opt, Game, whose, May}
use Rattle.endless.specs.Says.{side, goes}
use Rattle.endless.specs.Sets.{Set, In, Out, minus}
use Rattle.endless.specs.Bits.{members, size, Removed}
use Rattle.endless.specs.Graph.{moves, times, sources}
use Rattle.endless.specs.Ways.{ways, queued, Counted, Open, Awaited, Untouched}
use Rattle.endless.specs.Pulling.{Pulling, Passed, Working, Pulled, Unchanged, Moved, Starts, Drawn, Labelled, Attracts}
use Rattle.endless.proofs.Tests.{T_true}
use Rattle.endless.proofs.Nth.{nth_in, nth_out}
use Rattle.endless.proofs.Sets.{in_or_out, minus_in, minus_within, minus_out}
use Rattle.endless.proofs.SetLaws.{size_none}
use Rattle.endless.proofs.Pushed.{pushed_front, pushed_before, pushed_last}
use Rattle.endless.proofs.CountLaws.{one_itself, one_other}
use Rattle.endless.proofs.Removed.{removed_out, removed_within, removed_which, removed_still}
use Rattle.endless.proofs.Ways.{among_ways, ways_among, queued_next, queued_before, queued_grows, total_next}
use Rattle.endless.proofs.Sources.{preds_may, preds_times}
use Rattle.endless.proofs.Attractors.{attractor_own}
use Rattle.endless.proofs.Attracting.{put as put-plan, put_at as put-plan_at, put_else as put-plan_else, Comes}
use Rattle.endless.proofs.Pulling.{pulling_none, pulling_next, pulling_all, pulling_as, pulling_skip, pulling_stays, pulling_comes}

-- an answer's words by index
pub goes_at : (o : List ℕ) (n : ℕ) → goes o n ≡ get_or o (2 * n + 1) 0
goes_at o n = at_index o (2 * n + 1) (cases_lt (2 * n + 1) (length o))
  where
    at_index : (o : List ℕ) (i : ℕ) → (i < length o) ⊎ (length o ≤ i) → opt (nth o i) 0 (λ x. x) ≡ get_or o i 0
    at_index o i (inl h) = ap (λ (x : Option ℕ). opt x 0 (λ y. y)) (nth_in o i 0 h)
    at_index o i (inr h) = ap (λ (x : Option ℕ). opt x 0 (λ y. y)) (nth_out o i h) ∙ sym (get_or_past o i 0 h)

pub side_at : (o : List ℕ) (n : ℕ) → 2 * n < length o → side o n ≡ get_or o (2 * n) 0
side_at o n h = ap (λ (x : Option ℕ). opt x 2 (λ y. y)) (nth_in o (2 * n) 0 h)

-- a place's two words are written
module _ (o : List ℕ) (n w m : ℕ) (room : 2 * n + 1 < length o) where
  abbrev pub put : List ℕ
  put = set (set o (2 * n) w) (2 * n + 1) m

  pub put_goes : goes put n ≡ m
  put_goes = goes_at put n ∙ get_or-set_same (set o (2 * n) w) (2 * n + 1) m 0 (omega (arith, length-set o (2 * n) w))

  pub put_side : side put n ≡ w
  put_side = let l : length put ≡ length o = length-set (set o (2 * n) w) (2 * n + 1) m ∙ length-set o (2 * n) w in
      side_at put n (omega arith) ∙ get_or-set_other (set o (2 * n) w) (2 * n + 1) (2 * n) m 0 (omega arith) ∙ get_or-set_same o (2 * n) w 0 (omega arith)

  pub put_else : (k : ℕ) → (k ≡ 2 * n → ⊥) → (k ≡ 2 * n + 1 → ⊥) → get_or put k 0 ≡ get_or o k 0
  put_else k a b = get_or-set_other (set o (2 * n) w) (2 * n + 1) k m 0 b ∙ get_or-set_other o (2 * n) k w 0 a

  pub put_unchanged : (k : ℕ) → (k ≡ n → ⊥) → Unchanged o put k
  put_unchanged k d = (put_else (2 * k) (λ e. d (omega arith)) (λ e. omega arith), put_else (2 * k + 1) (λ e. omega arith) (λ e. d (omega arith)))

-- what is unchanged tells the same
pub unchanged_goes : (o p : List ℕ) (n : ℕ) → Unchanged o p n → goes p n ≡ goes o n
unchanged_goes o p n u = goes_at p n ∙ u.1 ∙ sym (goes_at o n)

pub same_side : (o p : List ℕ) (n : ℕ) → length p ≡ length o → Unchanged o p n → side p n ≡ side o n
same_side o p n e u = go (cases_lt (2 * n) (length o))
  where
    go : (2 * n < length o) ⊎ (length o ≤ 2 * n) → side p n ≡ side o n
    go (inl h) = side_at p n (omega arith) ∙ u.0 ∙ sym (side_at o n h)
    go (inr h) = ap (λ (x : Option ℕ). opt x 2 (λ y. y)) (nth_out p (2 * n) (omega arith) ∙ sym (nth_out o (2 * n) h))

-- nothing moved
pub moved_none : (left queue : List ℕ) (tail : ℕ) → Moved left queue tail left queue tail
moved_none left queue tail = record { counts = refl; grows = omega arith; less = λ n x. x; front = λ j h. refl; came = λ j a b. absurd (omega arith) }

-- one place moved
pub moved_one : (left queue : List ℕ) (tail from : ℕ) (left' queue' : List ℕ) → tail + size left ≤ length queue → In (members left) from → Removed left from left' → queue' ≡ set queue tail from → Moved left queue tail left' queue' (tail + 1)
moved_one left queue tail from left' queue' space was rem q = record {
  counts = omega (arith, rem.shrinks (T_true _ was));
  grows = omega arith;
  less = removed_within left from left' rem;
  front = pushed_front queue tail from q;
  came = λ j low high.
      let e : j ≡ tail = omega arith in
      let room : tail < length queue = omega (arith, rem.shrinks (T_true _ was)) in
      subst (λ (n : ℕ). In (members left) n × Out (members left') n) (sym (ap (λ (i : ℕ). get_or queue' i 0) e ∙ pushed_last queue tail from q room)) (was, removed_out left from left' rem);
}

-- two times
pub moved_then : (l q : List ℕ) (t : ℕ) (l' q' : List ℕ) (t' : ℕ) (l'' q'' : List ℕ) (t'' : ℕ) → Moved l q t l' q' t' → Moved l' q' t' l'' q'' t'' → Moved l q t l'' q'' t''
moved_then l q t l' q' t' l'' q'' t'' a b = record {
  counts = b.counts ∙ a.counts;
  grows = omega (arith, a.grows, b.grows);
  less = λ n x. a.less n (b.less n x);
  front = λ j h. b.front j (omega (arith, a.grows)) ∙ a.front j h;
  came = λ j low high. came j low high (cases_lt j t');
}
  where
    came : (j : ℕ) → t ≤ j → j < t'' → (j < t') ⊎ (t' ≤ j) → In (members l) (get_or q'' j 0) × Out (members l'') (get_or q'' j 0)
    came j low high (inl h) = let x = a.came j low h in subst (λ (n : ℕ). In (members l) n × Out (members l'') n) (sym (b.front j h)) (x.0, λ y. x.1 (b.less (get_or q' j 0) y))
    came j low high (inr h) = let x = b.came j h high in (a.less (get_or q'' j 0) x.0, x.1)

-- the numbers outside of what is left stay, time after time
pub kept_then : {l q : List ℕ} {t : ℕ} {l' q' : List ℕ} {t' : ℕ} (e e' e'' : List ℕ) → Moved l q t l' q' t' → Untouched (members l) e e' → Untouched (members l') e' e'' → Untouched (members l) e e''
kept_then e e' e'' m a b n o = b n (λ x. o (m.less n x)) ∙ a n o

-- one place is looked at
module _ {g : Game} {w from to tail : ℕ} {left queue via escapes left' queue' via' escapes' : List ℕ} {r : ℕ} (p : Pulled g w from to tail left queue via escapes left' queue' via' escapes' r) where
  pub pulled_keeps : Untouched (members left) escapes escapes'
  pulled_keeps k o = go (cases_eq k from)
    where
      go : (k ≡ from) ⊎ (k ≡ from → ⊥) → get_or escapes' k 0 ≡ get_or escapes k 0
      go (inl s) = subst (λ (i : ℕ). get_or escapes' i 0 ≡ get_or escapes i 0) (sym s) (p.lowered.gone (subst (λ (i : ℕ). Out (members left) i) s o))
      go (inr d) = p.lowered.others k d

  pub pulled_moves : tail + size left ≤ length queue → Moved left queue tail left' queue' r
  pulled_moves space = go p.took
    where
      go : ((r ≡ tail) × (left' ≡ left) × (In (members left) from → whose g from ≡ w → ⊥)) ⊎ ((r ≡ tail + 1) × In (members left) from × Removed left from left' × ((whose g from ≡ w → ⊥) → get_or escapes' from 0 ≡ 0)) → Moved left queue tail left' queue' r
      go (inl t) = rw (t.0, t.1) (record { counts = refl; grows = omega arith; less = λ n x. x; front = pushed_front queue tail from p.queue_is; came = λ j a b. absurd (omega arith) })
      go (inr t) = rw t.0 (moved_one left queue tail from left' queue' space t.1 t.2 p.queue_is)

  module _ (U D : Set) (targets head : ℕ) (ns : List ℕ) (may : May g from to) (in-to : In U to) (out-to : Out (members left) to) (space : tail < length queue) (beside : tail < length via) (work : Working g U w D left queue via escapes targets head tail (from ∷ ns)) where
    front : (j : ℕ) → j < tail → get_or queue' j 0 ≡ get_or queue j 0
    front = pushed_front queue tail from p.queue_is

    -- where it stands if it comes, and with which move
    last : get_or queue' tail 0 ≡ from
    last = pushed_last queue tail from p.queue_is space

    last_move : get_or via' tail 0 ≡ to
    last_move = pushed_last via tail to p.via_is beside

    -- the place counts one move less
    awaited : Awaited g left queue' escapes' head tail ns
    awaited n x = go (cases_eq n from)
      where
        before : queued queue' head (moves g n) ≡ queued queue head (moves g n)
        before = queued_before queue tail from p.queue_is head work.order (moves g n)

        all : queued queue' tail (moves g n) ≡ queued queue tail (moves g n)
        all = queued_before queue tail from p.queue_is tail (omega arith) (moves g n)

        go : (n ≡ from) ⊎ (n ≡ from → ⊥) → get_or escapes' n 0 + queued queue' head (moves g n) ≡ (ways (members left) (moves g n) + queued queue' tail (moves g n)) + times n ns
        go (inl e) =
            let here : get_or escapes' n 0 + 1 ≡ get_or escapes n 0 = subst (λ (i : ℕ). get_or escapes' i 0 + 1 ≡ get_or escapes i 0) (sym e) (p.lowered.here (subst (λ (i : ℕ). In (members left) i) e x)) in
            omega (arith, here, work.awaited n x, one_itself from n (sym e), before, all)
        go (inr d) = omega (arith, p.lowered.others n d, work.awaited n x, one_other from n (λ e. d (sym e)), before, all)

    pulling : Pulling g U w D (members left) (Passed queue' head) (from ∷ ns) work.plan
    pulling = pulling_as g U w D (members left) (Passed queue head) work.plan (Passed queue' head) (from ∷ ns) (λ n q. pushed_before queue tail from p.queue_is head n work.order q) work.pulling

    moves_are : (j : ℕ) → targets ≤ j → j < tail → work.plan (get_or queue' j 0) ≡ get_or via' j 0
    moves_are j low high = ap work.plan (front j high) ∙ work.moves_are j low high ∙ sym (pushed_front via tail to p.via_is j high)

    first : (j : ℕ) → j < targets → In D (get_or queue' j 0)
    first j h = subst (λ (n : ℕ). In D n) (sym (front j (omega (arith, work.late)))) (work.first j h)

    queued_still : (j : ℕ) → j < tail → In U (get_or queue' j 0) × Out (members left) (get_or queue' j 0)
    queued_still j h = subst (λ (n : ℕ). In U n × Out (members left) n) (sym (front j h)) (work.queued j h)

    listed : (n : ℕ) → In U n → Out (members left) n → Passed queue' tail n
    listed n u o = let t = work.listed n u o in (t.0, t.1, front t.0 t.1 ∙ t.2)

    stayed : (In (members left) from → whose g from ≡ w → ⊥) → Working g U w D left queue' via' escapes' targets head tail ns
    stayed why = record { late = work.late; order = work.order; plan = work.plan; pulling = go (in_or_out (members left) from); moves_are = moves_are; first = first; queued = queued_still; listed = listed; awaited = awaited }
      where
        go : In (members left) from ⊎ Out (members left) from → Pulling g U w D (members left) (Passed queue' head) ns work.plan
        go (inl x) = pulling_stays g U w D (members left) (Passed queue' head) work.plan from ns pulling (why x)
        go (inr o) = pulling_skip g U w D (members left) (Passed queue' head) work.plan from ns pulling o

    module _ (was : In (members left) from) (rem : Removed left from left') (why : (whose g from ≡ w → ⊥) → get_or escapes' from 0 ≡ 0) where
      -- where no move counts, none leads to what is left
      none_left : (whose g from ≡ w → ⊥) → 0 < ways (members left) (moves g from) → ⊥
      none_left theirs some =
          let grows : queued queue' head (moves g from) ≤ queued queue' tail (moves g from) = subst (λ (k : ℕ). queued queue' head (moves g from) ≤ queued queue' k (moves g from)) (let e : head + (tail - head) ≡ tail = omega (arith, work.order) in e) (queued_grows queue' (moves g from) head (tail - head)) in
          omega (arith, why theirs, awaited from was, grows)

      comes : Comes g U w (minus U (members left)) from
      comes = record {
        inside = work.pulling.left from was;
        outside = λ x. minus_out U (members left) from x was;
        move = to;
        brings = λ e. (may, minus_in U (members left) to in-to out-to);
        has_to = λ m theirs a u. minus_in U (members left) m u (λ x. none_left theirs (among_ways (members left) m (moves g from) a x));
      }

      plan : ℕ → ℕ
      plan = put-plan work.plan from to

      else : (n : ℕ) → Out (members left) n → plan n ≡ work.plan n
      unfolding plan
      else n o = put-plan_else work.plan from to n (λ e. o (subst (λ (j : ℕ). In (members left) j) (sym e) was))

      came : Working g U w D left' queue' via' escapes' targets head (tail + 1) ns
      unfolding comes plan
      came = record {
        late = omega (arith, work.late);
        order = omega (arith, work.order);
        plan = plan;
        pulling = pulling_comes g U w D (members left) (Passed queue' head) work.plan from ns pulling (members left') plan comes (removed_out left from left' rem) (removed_within left from left' rem) (removed_which left from left' rem) (λ e. put-plan_at work.plan from to from refl) (λ n u o. else n o);
        moves_are = λ j low high. beside_each j high low (cases_lt j tail);
        first = first;
        queued = λ j h. each j h (cases_lt j tail);
        listed = λ n u o. passed n u o (cases_eq n from);
        awaited = λ n x. omega (arith, awaited n (removed_within left from left' rem n x), total_next left queue' tail from last was rem (moves g n));
      }
        where
          beside_each : (j : ℕ) → j < tail + 1 → targets ≤ j → (j < tail) ⊎ (tail ≤ j) → plan (get_or queue' j 0) ≡ get_or via' j 0
          beside_each j high low (inl h) = else (get_or queue' j 0) (queued_still j h).1 ∙ moves_are j low h
          beside_each j high low (inr h) = subst (λ (i : ℕ). plan (get_or queue' i 0) ≡ get_or via' i 0) (let e : tail ≡ j = omega arith in e) (put-plan_at work.plan from to (get_or queue' tail 0) last ∙ sym last_move)

          each : (j : ℕ) → j < tail + 1 → (j < tail) ⊎ (tail ≤ j) → In U (get_or queue' j 0) × Out (members left') (get_or queue' j 0)
          each j high (inl h) = let t = queued_still j h in (t.0, λ x. t.1 (removed_within left from left' rem (get_or queue' j 0) x))
          each j high (inr h) = subst (λ (n : ℕ). In U n × Out (members left') n) (sym (ap (λ (i : ℕ). get_or queue' i 0) (let e : j ≡ tail = omega arith in e) ∙ last)) (work.pulling.left from was, removed_out left from left' rem)

          passed : (n : ℕ) → In U n → Out (members left') n → (n ≡ from) ⊎ (n ≡ from → ⊥) → Passed queue' (tail + 1) n
          passed n u o (inl e) = (tail, omega arith, last ∙ sym e)
          passed n u o (inr d) = let t = listed n u (removed_still left from left' rem n d o) in (t.0, omega (arith, t.1), t.2)

    -- the state after
    pub working_step : Working g U w D left' queue' via' escapes' targets head r ns
    working_step = go p.took
      where
        go : ((r ≡ tail) × (left' ≡ left) × (In (members left) from → whose g from ≡ w → ⊥)) ⊎ ((r ≡ tail + 1) × In (members left) from × Removed left from left' × ((whose g from ≡ w → ⊥) → get_or escapes' from 0 ≡ 0)) → Working g U w D left' queue' via' escapes' targets head r ns
        go (inl t) = rw (t.0, t.1) (stayed t.2)
        go (inr t) = rw t.0 (came t.1 t.2 t.3)

-- before the first
pub working_none : (g : Game) (U : Set) (w : ℕ) (D : Set) (left queue via escapes : List ℕ) (targets : ℕ) → Starts U D left queue targets → Counted g U (members left) escapes → Working g U w D left queue via escapes targets 0 targets []
working_none g U w D left queue via escapes targets st counted = record {
  late = omega arith;
  order = omega arith;
  plan = λ n. n;
  pulling = pulling_none g U w D (members left) (Passed queue 0) (λ n. n) st.rest st.covers st.inside st.apart (λ n p. absurd (omega (arith, p.1)));
  moves_are = λ j low high. absurd (omega arith);
  first = st.first;
  queued = λ j h. let d = st.first j h in (st.inside _ d, st.apart _ d);
  listed = λ n u o. st.all n (st.covers n u o);
  awaited = λ n x. omega (arith, counted n x, st.total (moves g n));
}

-- the next place of the queue
pub working_next : (g : Game) (U : Set) (w : ℕ) (D : Set) (left queue via escapes : List ℕ) (targets head tail : ℕ) → head < tail → Working g U w D left queue via escapes targets head tail [] → Working g U w D left queue via escapes targets (head + 1) tail (sources 0 g (get_or queue head 0))
working_next g U w D left queue via escapes targets head tail h work = record {
  late = work.late;
  order = omega arith;
  plan = work.plan;
  pulling = pulling_next g U w D (members left) (Passed queue head) work.plan (Passed queue (head + 1)) to (sources 0 g to) (work.queued head h).1 (λ n p. which n p (cases_lt p.0 head)) (λ n may. (preds_may g to n).1 may) work.pulling;
  moves_are = work.moves_are;
  first = work.first;
  queued = work.queued;
  listed = work.listed;
  awaited = λ n x. omega (arith, work.awaited n x, preds_times g to n, queued_next queue head (moves g n));
}
  where
    to : ℕ
    to = get_or queue head 0

    which : (n : ℕ) (p : Passed queue (head + 1) n) → (p.0 < head) ⊎ (head ≤ p.0) → Passed queue head n ⊎ (n ≡ get_or queue head 0)
    which n p (inl l) = inl (p.0, l, p.2)
    which n p (inr l) = let e : p.0 ≡ head = omega (arith, p.1) in inr (sym p.2 ∙ ap (λ (i : ℕ). get_or queue i 0) e)

-- after the last, or where nothing is left
pub working_all : (g : Game) (U : Set) (w : ℕ) (D : Set) (left queue via escapes : List ℕ) (targets head tail : ℕ) → (head ≡ tail) ⊎ (size left ≡ 0) → Open (members left) escapes → Working g U w D left queue via escapes targets head tail [] → Drawn g U w D left queue via escapes targets tail
working_all g U w D left queue via escapes targets head tail end escaping work = record {
  plan = work.plan;
  rank = work.pulling.rank;
  attractor = pulling_all g U w D (members left) (Passed queue head) work.plan (all end) on work.pulling;
  moves_are = work.moves_are;
  first = work.first;
  queued = work.queued;
  listed = work.listed;
  counted = counted end;
}
  where
    none : size left ≡ 0 → (k : ℕ) → Out (members left) k
    none e k x = both_ways (members left k) (size_none left e k) (T_true _ x)

    all : (head ≡ tail) ⊎ (size left ≡ 0) → (k : ℕ) → In (members left) k → (n : ℕ) → In U n → Out (members left) n → Passed queue head n
    all (inl e) k x n u o = subst (λ (h : ℕ). Passed queue h n) (sym e) (work.listed n u o)
    all (inr e) k x n u o = absurd (none e k x)

    counted : (head ≡ tail) ⊎ (size left ≡ 0) → Counted g (members left) (members left) escapes
    counted (inl e) n x = omega (arith, work.awaited n x, ap (λ (k : ℕ). queued queue k (moves g n)) e)
    counted (inr e) n x = absurd (none e n x)

    on : (n : ℕ) → In (members left) n → (m : ℕ) × May g n m × In (members left) m
    on n x = ways_among (members left) (moves g n) (omega (arith, counted end n x, escaping n x))

-- ---- the answer is written

pub labelled_none : (w : ℕ) (queue via : List ℕ) (from : ℕ) (out : List ℕ) → Labelled w queue via from from out out
labelled_none w queue via from out = record { frame = λ n d. (refl, refl); given = λ j low high. absurd (omega arith); moves_are = λ j low high. absurd (omega arith) }

-- one place more
pub labelled_more : {w : ℕ} (queue via : List ℕ) (from i : ℕ) {out out' : List ℕ} → from ≤ i → 2 * get_or queue i 0 + 1 < length out' → Labelled w queue via from i out out' → Labelled w queue via from (i + 1) out (set (set out' (2 * get_or queue i 0) w) (2 * get_or queue i 0 + 1) (get_or via i 0))
labelled_more {w} queue via from i {out} {out'} order room so_far = record {
  frame = λ n d.
      let a = so_far.frame n (λ j low high. d j low (omega (arith, high))) in
      let b = put_unchanged out' place w move room n (λ e. d i order (omega arith) (sym e)) in
      (b.0 ∙ a.0, b.1 ∙ a.1);
  given = λ j low high. given j low high (cases_eq (get_or queue j 0) place);
  moves_are = λ j low high. moves_are j low high (cases_eq (get_or queue j 0) place);
}
  where
    place : ℕ
    place = get_or queue i 0

    move : ℕ
    move = get_or via i 0

    now : List ℕ
    now = set (set out' (2 * place) w) (2 * place + 1) move

    long : length now ≡ length out'
    long = length-set (set out' (2 * place) w) (2 * place + 1) move ∙ length-set out' (2 * place) w

    -- an entry with another place stands before
    before : (j : ℕ) → j < i + 1 → (get_or queue j 0 ≡ place → ⊥) → j < i
    before j high d = go (cases_lt j i)
      where
        go : (j < i) ⊎ (i ≤ j) → j < i
        go (inl h) = h
        go (inr h) = absurd (d (ap (λ (k : ℕ). get_or queue k 0) (let e : j ≡ i = omega arith in e)))

    given : (j : ℕ) → from ≤ j → j < i + 1 → (get_or queue j 0 ≡ place) ⊎ (get_or queue j 0 ≡ place → ⊥) → side now (get_or queue j 0) ≡ w
    given j low high (inl e) = ap (side now) e ∙ put_side out' place w move room
    given j low high (inr d) = same_side out' now (get_or queue j 0) long (put_unchanged out' place w move room (get_or queue j 0) d) ∙ so_far.given j low (before j high d)

    moves_are : (j : ℕ) → from ≤ j → j < i + 1 → (get_or queue j 0 ≡ place) ⊎ (get_or queue j 0 ≡ place → ⊥) → (k : ℕ) × (from ≤ k) × (k < i + 1) × (get_or queue k 0 ≡ get_or queue j 0) × (goes now (get_or queue j 0) ≡ get_or via k 0)
    moves_are j low high (inl e) = (i, order, omega arith, sym e, ap (goes now) e ∙ put_goes out' place w move room)
    moves_are j low high (inr d) =
        let t = so_far.moves_are j low (before j high d) in
        (t.0, t.1, omega (arith, t.2), t.3, unchanged_goes out' now (get_or queue j 0) (put_unchanged out' place w move room (get_or queue j 0) d) ∙ t.4)

-- so the answer's moves are those of the plan
pub attracts_labelled : {g : Game} {U : Set} {w : ℕ} {D : Set} {left queue via escapes : List ℕ} {targets tail : ℕ} {out out' : List ℕ} → Drawn g U w D left queue via escapes targets tail → Labelled w queue via targets tail out out' → Attracts g U w D left queue out' escapes tail
attracts_labelled {g} {U} {w} {D} {left} {queue} {via} {escapes} {targets} {tail} {out} {out'} drawn labels = record {
  rank = drawn.rank;
  attractor = attractor_own (goes out') moves drawn.attractor;
  queued = drawn.queued;
  listed = drawn.listed;
  labelled = λ n u d o. let t = later n u d o in subst (λ (k : ℕ). side out' k ≡ w) t.3 (labels.given t.0 t.1 t.2);
  counted = drawn.counted;
}
  where
    -- what is no target came after them
    later : (n : ℕ) → In U n → Out D n → Out (members left) n → (j : ℕ) × (targets ≤ j) × (j < tail) × (get_or queue j 0 ≡ n)
    later n u d o = let t = drawn.listed n u o in (t.0, go t.0 t.2 (cases_lt t.0 targets), t.1, t.2)
      where
        go : (j : ℕ) → get_or queue j 0 ≡ n → (j < targets) ⊎ (targets ≤ j) → targets ≤ j
        go j e (inl h) = absurd (d (subst (λ (k : ℕ). In D k) e (drawn.first j h)))
        go j e (inr h) = h

    moves : (n : ℕ) → In (minus U (members left)) n → Out D n → goes out' n ≡ drawn.plan n
    moves n x d =
        let t = later n (minus_within U (members left) n x) d (minus_out U (members left) n x) in
        let m = labels.moves_are t.0 t.1 t.2 in
        subst (λ (k : ℕ). goes out' k ≡ drawn.plan k) t.3 (m.4 ∙ sym (drawn.moves_are m.0 m.1 m.2) ∙ ap drawn.plan m.3)
