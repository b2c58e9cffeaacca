-- Going from places to all that can be come to within a set.
use Rattle.std.proofs.Common.{◌≡◌, ℕ, ◌+◌, ◌<◌, ◌≤◌, Bool, true, false, ◌||◌, T, ◌⊎◌, List, Option, Some, None, length, option_map, get_or, set, sym, refl, ap, ◌∙◌, subst, ⊎_elim, inl, inr, arith}
use Rattle.std.proofs.lemmas.Bool.{cases_eq, cases_lt, both_ways, eq-eqb, ne_eqb}
use Rattle.endless.specs.Games.{Game, Among, May}
use Rattle.endless.specs.Sets.{In, Within}
use Rattle.endless.specs.Subgames.{Closed}
use Rattle.endless.specs.Bits.{members, size, Inserted}
use Rattle.endless.specs.Graph.{moves}
use Rattle.endless.specs.Parts.{Listing, Told, PartTaken, Covers}
use Rattle.endless.specs.Growing.{Same, Lists, Grown, Takes}
use Rattle.endless.specs.declared.closed.Growing.{Growing}
use Rattle.endless.proofs.Tests.{T_true, true_T}
use Rattle.endless.proofs.Among.{among_at}
use Rattle.endless.proofs.Pushed.{pushed_front, pushed_each, pushed_passed}
use Rattle.endless.proofs.SetLaws.{size_sub, size_sub_lt, size_none, size_some}

-- a set with a place more
module _ {l : List ℕ} {k : ℕ} {r : List ℕ} (ins : Inserted l k r) where
  pub inserted_in : In (members r) k
  inserted_in = true_T _ (ins.are k ∙ ap (λ (b : Bool). b || members l k) (eq-eqb k k refl))

  pub inserted_else : (n : ℕ) → (n ≡ k → ⊥) → members r n ≡ members l n
  inserted_else n d = ins.are n ∙ ap (λ (b : Bool). b || members l n) (ne_eqb n k d)

  pub inserted_more : Within (members l) (members r)
  inserted_more n x = go (cases_eq n k)
    where
      go : (n ≡ k) ⊎ (n ≡ k → ⊥) → In (members r) n
      go (inl e) = subst (λ (j : ℕ). In (members r) j) (sym e) inserted_in
      go (inr d) = subst T (sym (inserted_else n d)) x

  pub inserted_which : (n : ℕ) → In (members r) n → (n ≡ k) ⊎ In (members l) n
  inserted_which n x = go (cases_eq n k)
    where
      go : (n ≡ k) ⊎ (n ≡ k → ⊥) → (n ≡ k) ⊎ In (members l) n
      go (inl e) = inl e
      go (inr d) = inr (subst T (inserted_else n d) x)

-- nothing listed yet
pub listing_none : {own part queue : List ℕ} → size part ≡ 0 → Listing own part queue 0
listing_none {part = part} none = record {
  inside = λ n x. absurd (both_ways (members part n) (size_none part none n) (T_true _ x));
  counts = sym none;
  queued = λ j h. absurd (omega arith);
  listed = λ n x. absurd (both_ways (members part n) (size_none part none n) (T_true _ x));
}

-- places of the set came to the part, and to the end of the queue
pub record Spread (own part queue : List ℕ) (count : ℕ) (part' queue' : List ℕ) (count' : ℕ) : Type 0 where
  pub lists : Listing own part' queue' count'
  pub grows : count ≤ count'
  pub more : Within (members part) (members part')
  pub front : (j : ℕ) → j < count → get_or queue' j 0 ≡ get_or queue j 0

-- a place of the set that is not in the part: there is room for it, and it comes
module _ {own part queue : List ℕ} {count : ℕ} (place : ℕ) (same : length part ≡ length own) (room : size own ≤ length queue) (k : Listing own part queue count) (mine : members own place ≡ true) (new : members part place ≡ false) where
  pub spread_room : count < length queue
  spread_room = omega (arith, k.counts, size_sub_lt part own place same (λ j x. T_true _ (k.inside j (true_T _ x))) mine new)

  pub spread_one : {part' queue' : List ℕ} → Inserted part place part' → queue' ≡ set queue count place → Spread own part queue count part' queue' (count + 1)
  spread_one {part'} {queue'} ins q = record {
    lists = record {
      inside = λ n x. inside n (inserted_which ins n x);
      counts = omega (arith, k.counts, ins.grows new);
      queued = pushed_each queue count place q spread_room (λ n. In (members part') n) (λ j l. inserted_more ins (get_or queue j 0) (k.queued j l)) (inserted_in ins);
      listed = λ n x. pushed_passed queue count place q spread_room n (⊎_elim (λ e. inl e) (λ y. inr (k.listed n y)) (inserted_which ins n x));
    };
    grows = omega arith;
    more = inserted_more ins;
    front = pushed_front queue count place q;
  }
    where
      inside : (n : ℕ) → (n ≡ place) ⊎ In (members part) n → In (members own) n
      inside n (inl e) = subst (λ (j : ℕ). In (members own) j) (sym e) (true_T _ mine)
      inside n (inr x) = k.inside n x

-- what a part is made in stays
pub same_none : (a : Growing) → Same a a
same_none a = record { places = refl; set = refl; part = refl; queue = refl }

pub same_then : {a b c : Growing} → Same a b → Same b c → Same a c
same_then x y = record {
  places = y.places ∙ x.places;
  set = y.set ∙ x.set;
  part = y.part ∙ x.part;
  queue = y.queue ∙ x.queue;
}

-- how a part grows, step by step
pub grown_none : (a : Growing) → Lists a → Grown a a
grown_none a k = record { lists = k; same = same_none a; grows = omega arith; more = λ n x. x; front = λ j h. refl }

pub grown_then : {a b c : Growing} → Grown a b → Grown b c → Grown a c
grown_then x y = record {
  same = same_then x.same y.same;
  grows = omega (arith, x.grows, y.grows);
  more = λ n i. y.more n (x.more n i);
  lists = y.lists;
  front = λ j h. y.front j (omega (arith, x.grows)) ∙ x.front j h;
}

-- a part has no more places than its set
pub listing_few : {own part queue : List ℕ} {count : ℕ} → length part ≡ length own → Listing own part queue count → count ≤ size own
listing_few {own} {part} same k = omega (arith, k.counts, size_sub part own same (λ j x. T_true _ (k.inside j (true_T _ x))))

-- of a list of places the first i that are in the set are in the part
pub record Over (a : Growing) (items : List ℕ) (i : ℕ) (b : Growing) : Type 0 where
  pub grown : Grown a b
  pub holds : (k : ℕ) → k < i → In (members a.set.now) (get_or items k 0) → In (members b.part.now) (get_or items k 0)

pub over_more : {a b c : Growing} {items : List ℕ} {i i' : ℕ} → Over a items i b → i' ≡ i + 1 → Grown b c → (In (members b.set.now) (get_or items i 0) → In (members c.part.now) (get_or items i 0)) → Over a items i' c
over_more {a = a} {c = c} {items = items} {i = i} {i' = i'} k is grown came = record { grown = grown_then k.grown grown; holds = λ j h x. holds j h x (cases_lt j i) }
  where
    holds : (j : ℕ) → j < i' → In (members a.set.now) (get_or items j 0) → (j < i) ⊎ (i ≤ j) → In (members c.part.now) (get_or items j 0)
    holds j h x (inl e) = grown.more (get_or items j 0) (k.holds j e x)
    holds j h x (inr e) =
        let same : i ≡ j = omega arith in
        subst (λ (n : ℕ). In (members a.set.now) (get_or items n 0) → In (members c.part.now) (get_or items n 0)) same (λ y. came (subst (λ (s : List ℕ). In (members s) (get_or items i 0)) (sym k.grown.same.set) y)) x

-- going to what can be come to: the queue is gone through up to `head`
pub record Going (g : Game) (a b : Growing) (head : ℕ) : Type 0 where
  pub grown : Grown a b
  pub order : head ≤ b.count
  pub passed : (j : ℕ) → j < head → (m : ℕ) → May g (get_or b.queue.now j 0) m → In (members b.set.now) m → In (members b.part.now) m

pub going_none : {g : Game} (a : Growing) → Lists a → Going g a a 0
going_none a k = record { grown = grown_none a k; order = omega arith; passed = λ j h m may x. absurd (omega arith) }

pub going_more : {g : Game} {a b c : Growing} {head next : ℕ} {items : List ℕ} → Going g a b head → head < b.count → next ≡ head + 1 → items ≡ moves g (get_or b.queue.now head 0) → Grown b c →
    ((k : ℕ) → k < length items → In (members b.set.now) (get_or items k 0) → In (members c.part.now) (get_or items k 0)) → Going g a c next
going_more {g = g} {b = b} {c = c} {head = head} {next = next} {items = items} k h is are s holds = record {
  grown = grown_then k.grown s;
  order = omega (arith, s.grows);
  passed = λ j l m may x. passed j l m may (subst (λ (t : List ℕ). In (members t) m) s.same.set x) (cases_lt j head);
}
  where
    passed : (j : ℕ) → j < next → (m : ℕ) → May g (get_or c.queue.now j 0) m → In (members b.set.now) m → (j < head) ⊎ (head ≤ j) → In (members c.part.now) m
    passed j l m may x (inl e) = s.more m (k.passed j e m (subst (λ (n : ℕ). May g n m) (s.front j (omega arith)) may) x)
    passed j l m may x (inr e) =
        let same : get_or c.queue.now j 0 ≡ get_or b.queue.now head 0 = ap (λ (i : ℕ). get_or c.queue.now i 0) (let e' : j ≡ head = omega arith in e') ∙ s.front head h in
        let t = among_at m items (subst (λ (y : List ℕ). Among m y) (sym are) (subst (λ (n : ℕ). May g n m) same may)) in
        subst (λ (n : ℕ). In (members c.part.now) n) t.2 (holds t.0 t.1 (subst (λ (n : ℕ). In (members b.set.now) n) (sym t.2) x))

pub going_all : {g : Game} {a b : Growing} {head : ℕ} → Going g a b head → b.count ≤ head → Closed g (members a.set.now) (members b.part.now)
going_all {g = g} {b = b} k end = subst (λ (t : List ℕ). Closed g (members t) (members b.part.now)) k.grown.same.set (record {
  within = k.grown.lists.inside;
  stays = λ n m x may y. let t = k.grown.lists.listed n x in k.passed t.0 (omega (arith, t.1)) m (subst (λ (i : ℕ). May g i m) (sym t.2) may) y;
})

-- a closed part is taken, whose places stand in the queue
pub queued_taken : {g : Game} {own part queue : List ℕ} {count : ℕ} → length part ≡ length own → Listing own part queue count → (0 < size own → 0 < size part) → Closed g (members own) (members part) → PartTaken g own part queue (Some count)
queued_taken {own = own} {part = part} {queue = queue} {count = count} same k some closed = record {
  few = λ x e. let c : count ≡ x = cc in omega (arith, k.counts, size_sub part own same (λ j y. T_true _ (k.inside j (true_T _ y))));
  sizes = k.counts;
  some_place = some;
  closed = closed;
  listed = λ list s. record {
    within = k.inside;
    some_place = λ h. let t = size_some part (some h) in (t.0, true_T _ t.1);
    whole = λ e. absurd (no_list list e s.long);
    told = λ l e. told l (let t : length l ≡ count = cc (s.long, ap (option_map length) e) in t) (s.copied l e);
  };
}
  where
    no_list : (list : Option (List ℕ)) → list ≡ None → option_map length list ≡ Some count → ⊥
    no_list list e long = let t : None ≡ Some count = sym (ap (option_map length) e) ∙ long in cc

    told : (l : List ℕ) → length l ≡ count → ((j : ℕ) → j < length l → get_or l j 0 ≡ get_or queue j 0) → Told l (members part)
    told l long at n = (
      λ x. let t = k.listed n x in (t.0, omega (arith, t.1), at t.0 (omega (arith, t.1)) ∙ t.2),
      λ p. subst (λ (m : ℕ). In (members part) m) (sym (at p.0 p.1) ∙ p.2) (k.queued p.0 (omega (arith, p.1))),
    )

-- all of a set is taken, by a list that has all of it
pub listed_taken : {a b c : Growing} (items : List ℕ) → Same a b → Grown b c → ((k : ℕ) → k < length items → In (members b.set.now) (get_or items k 0) → In (members c.part.now) (get_or items k 0)) → Covers a.set.now items → Takes a c (Some c.count)
listed_taken {a} {b} {c} items same grown holds covers = queued_taken long (subst (λ (own : List ℕ). Listing own c.part.now c.queue.now c.count) is grown.lists)
    (λ h. omega (arith, size_sub a.set.now c.part.now (sym long) (λ j x. T_true _ (all j (true_T _ x)))))
    (record { within = λ n x. subst (λ (own : List ℕ). In (members own) n) is (grown.lists.inside n x); stays = λ n m x may y. all m y })
  where
    is : c.set.now ≡ a.set.now
    is = grown.same.set ∙ same.set

    long : length c.part.now ≡ length a.set.now
    long = c.spacious.same ∙ ap (λ (own : List ℕ). length own) is

    all : Within (members a.set.now) (members c.part.now)
    all n x =
        let t = covers n x in
        subst (λ (m : ℕ). In (members c.part.now) m) t.2 (holds t.0 t.1 (subst (λ (own : List ℕ). In (members own) (get_or items t.0 0)) (sym same.set) (subst (λ (m : ℕ). In (members a.set.now) m) (sym t.2) x)))

-- all of a set is taken
pub whole_taken : {g : Game} {own part queue : List ℕ} → part ≡ own → PartTaken g own part queue None
whole_taken {own = own} same = rw same (record {
  few = λ x e. cc;
  sizes = refl;
  some_place = λ h. h;
  closed = record { within = λ n x. x; stays = λ n m x may y. y };
  listed = λ list s. record {
    within = λ n x. x;
    some_place = λ h. let t = size_some own h in (t.0, true_T _ t.1);
    whole = λ e n x. x;
    told = λ l e. let t : Some (length l) ≡ None = sym (ap (option_map length) e) ∙ s.long in cc;
  };
})
