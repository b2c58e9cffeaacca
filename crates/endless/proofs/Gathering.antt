-- Going through the places of a set: those that go to the queue, and one that is given to a side.
use Rattle.std.proofs.Common.{◌≡◌, ℕ, ◌+◌, ◌*◌, ◌<◌, ◌≤◌, false, ◌⊎◌, List, length, get_or, set, sym, ap, ◌∙◌, subst, ⊎_elim, inl, inr, arith}
use Rattle.std.proofs.lemmas.List.{length-set}
use Rattle.std.proofs.lemmas.Bool.{cases_eq, cases_lt, both_ways}
use Rattle.endless.specs.Games.{Game}
use Rattle.endless.specs.Says.{side, goes}
use Rattle.endless.specs.Sets.{Set, In, Out, Within, having}
use Rattle.endless.specs.Bits.{members, size, Removed, Least, NoneFrom}
use Rattle.endless.specs.Ways.{ways, queued}
use Rattle.endless.specs.Pulling.{Passed, Unchanged, Starts}
use Rattle.endless.specs.Levels.{Stays, Given}
use Rattle.endless.specs.Parts.{PickedIf}
use Rattle.endless.proofs.Tests.{T_true, true_T}
use Rattle.endless.proofs.Sets.{having_in, having_within, having_is}
use Rattle.endless.proofs.SetLaws.{members_below, some_size}
use Rattle.endless.proofs.Pushed.{pushed_each, pushed_passed}
use Rattle.endless.proofs.Removed.{removed_out, removed_within, removed_still}
use Rattle.endless.proofs.Ways.{total_kept}
use Rattle.endless.proofs.Working.{put_goes, put_side, put_unchanged}

-- a member that a scan from `from` on would have found is below it
before : (l : List ℕ) (from n : ℕ) → (from ≤ n → members l n ≡ false) → In (members l) n → n < from
before l from n none x = go (cases_lt n from)
  where
    go : (n < from) ⊎ (from ≤ n) → n < from
    go (inl e) = e
    go (inr e) = absurd (both_ways (members l n) (none e) (T_true _ x))

-- of the members of `own` below `from`, those at which f is k have gone from what is left to the queue
pub record Gathering (f : ℕ → ℕ) (k : ℕ) (own left queue : List ℕ) (from count : ℕ) : Type 0 where
  pub bound : from ≤ 32 * length own
  pub counts : count + size left ≡ size own
  pub same : count ≡ 0 → left ≡ own
  pub rest : Within (members left) (members own)
  pub apart : (n : ℕ) → n < from → f n ≡ k → Out (members left) n
  pub covers : (n : ℕ) → In (members own) n → Out (members left) n → (n < from) × (f n ≡ k)
  pub first : (j : ℕ) → j < count → In (members own) (get_or queue j 0) × (f (get_or queue j 0) ≡ k)
  pub all : (n : ℕ) → In (members own) n → Out (members left) n → Passed queue count n
  pub total : (ms : List ℕ) → ways (members left) ms + queued queue count ms ≡ ways (members own) ms

module _ {f : ℕ → ℕ} {k : ℕ} {own left queue : List ℕ} {from count : ℕ} (so_far : Gathering f k own left queue from count) where
  module _ {m : ℕ} (least : Least (members left) from m) where
    pub gathering_inside : In (members own) m
    gathering_inside = so_far.rest m (true_T _ least.is)

    pub gathering_below : m < 32 * length own
    gathering_below = members_below own m (T_true _ gathering_inside)

    pub gathering_room : count < size own
    gathering_room = omega (arith, so_far.counts, some_size left m least.is)

    pub gathering_skip : (f m ≡ k → ⊥) → Gathering f k own left queue (m + 1) count
    gathering_skip d = record {
      bound = omega (arith, gathering_below);
      counts = so_far.counts;
      same = so_far.same;
      rest = so_far.rest;
      apart = λ n h e x. so_far.apart n (before left from n (λ l. least.none n l (let t : n ≡ m → ⊥ = λ s. d (sym (ap f s) ∙ e) in omega arith)) x) e x;
      covers = λ n x o. let t = so_far.covers n x o in (omega (arith, t.0, least.after), t.1);
      first = so_far.first;
      all = so_far.all;
      total = so_far.total;
    }

    pub gathering_take : {left' queue' : List ℕ} → f m ≡ k → count < length queue → Removed left m left' → queue' ≡ set queue count m → Gathering f k own left' queue' (m + 1) (count + 1)
    gathering_take {left'} {queue'} is room rem q = record {
      bound = omega (arith, gathering_below);
      counts = omega (arith, so_far.counts, rem.shrinks least.is);
      same = λ e. absurd (omega arith);
      rest = λ n x. so_far.rest n (removed_within left m left' rem n x);
      apart = λ n h e x. apart n h e x (cases_eq n m);
      covers = λ n x o. covers n x o (cases_eq n m);
      first = pushed_each queue count m q room (λ n. In (members own) n × (f n ≡ k)) so_far.first (gathering_inside, is);
      all = λ n x o. pushed_passed queue count m q room n (⊎_elim (λ e. inl e) (λ d. inr (so_far.all n x (removed_still left m left' rem n d o))) (cases_eq n m));
      total = λ ms. total_kept left queue count m room (true_T _ least.is) rem q ms ∙ so_far.total ms;
    }
      where
        apart : (n : ℕ) → n < m + 1 → f n ≡ k → In (members left') n → (n ≡ m) ⊎ (n ≡ m → ⊥) → ⊥
        apart n h e x (inl s) = removed_out left m left' rem (subst (λ (j : ℕ). In (members left') j) s x)
        apart n h e x (inr d) = let y = removed_within left m left' rem n x in so_far.apart n (before left from n (λ l. least.none n l (omega arith)) y) e y

        covers : (n : ℕ) → In (members own) n → Out (members left') n → (n ≡ m) ⊎ (n ≡ m → ⊥) → (n < m + 1) × (f n ≡ k)
        covers n x o (inl s) = (omega arith, ap f s ∙ is)
        covers n x o (inr d) = let t = so_far.covers n x (removed_still left m left' rem n d o) in (omega (arith, t.0, least.after), t.1)

  -- one member more
  pub gathering_more : {m : ℕ} {left' queue' : List ℕ} {r : ℕ} → Least (members left) from m → size own ≤ length queue → PickedIf f k m count left queue left' queue' r → Gathering f k own left' queue' (m + 1) r
  gathering_more least room (inl t) = rw (t.0, t.1, t.2) (gathering_skip least (t.3 (true_T _ least.is)))
  gathering_more least room (inr t) = rw t.0 (gathering_take least t.2 (omega (arith, gathering_room least, room)) t.3 t.4)

  pub gathering_all : NoneFrom (members left) from → Starts (members own) (having (members own) f k) left queue count
  gathering_all none = record {
    rest = so_far.rest;
    inside = having_within (members own) f k;
    apart = apart;
    covers = λ n x o. having_in (members own) f k n x (so_far.covers n x o).1;
    first = λ j h. let t = so_far.first j h in having_in (members own) f k (get_or queue j 0) t.0 t.1;
    all = λ n x. so_far.all n (having_within (members own) f k n x) (apart n x);
    total = so_far.total;
  }
    where
      apart : (n : ℕ) → In (having (members own) f k) n → Out (members left) n
      apart n x y = so_far.apart n (before left from n (none n) y) (having_is (members own) f k n x) y

-- a place is given to a side
module _ {g : Game} {w m : ℕ} {U : Set} {out out' : List ℕ} (room : 2 * m + 1 < length out) (t : Given g w m U out out') where
  pub given_same : (n : ℕ) → (n ≡ m → ⊥) → Unchanged out out' n
  given_same n d = subst (λ (o : List ℕ). Unchanged out o n) (sym t.out_is) (put_unchanged out m w t.move room n d)

  pub given_length : length out' ≡ length out
  given_length = ap length t.out_is ∙ length-set (set out (2 * m) w) (2 * m + 1) t.move ∙ length-set out (2 * m) w

  pub given_side : side out' m ≡ w
  given_side = ap (λ (o : List ℕ). side o m) t.out_is ∙ put_side out m w t.move room

  pub given_stays : Stays g U m (goes out' m)
  given_stays = subst (Stays g U m) (sym (ap (λ (o : List ℕ). goes o m) t.out_is ∙ put_goes out m w t.move room)) t.stays
