-- One place is looked at, as the code does it: it stays, it waits, or it comes.
use Rattle.std.proofs.Common.{◌≡◌, ℕ, ◌+◌, ◌-◌, ◌*◌, ◌<◌, ◌≤◌, Bool, true, false, eqb, ◌⊎◌, List, [], length, get_or, take, set, sym, refl, ap, ◌∙◌, subst, inl, inr, arith}
use Rattle.std.proofs.lemmas.List.{get_or-set_same, get_or-set_other, take_all}
use Rattle.std.proofs.lemmas.Bool.{cases_eq, ltb-true, ltb-false, both_ways}
use Rattle.endless.specs.Games.{Game, Reads, whose, Among, May}
use Rattle.endless.specs.Graph.{moves, times, sources}
use Rattle.endless.proofs.Among.{at_among}
use Rattle.endless.proofs.Places.{from_place}
use Rattle.endless.proofs.CountLaws.{one_if}
use Rattle.endless.proofs.Sources.{times_more, times_here, preds_times, preds_may}
use Rattle.endless.proofs.Working.{put_goes, put_unchanged}
use Rattle.distance.specs.Sooner.{never}
use Rattle.distance.specs.Spreading.{number, Spread, Looks, Kept, Waited}
use Rattle.distance.proofs.Spreads.{spread_room, spread_stays, spread_waits, all_in, spread_comes, comes_kept, spread_next}

kept_same : (out queue : List ℕ) (tail : ℕ) → Kept out queue tail out queue tail
kept_same out queue tail = record { grows = omega arith; front = λ j h. refl; numbers = λ j h. refl }

module _ {s : List ℕ} {g : Game} (reads : Reads s g) {w target to next from head i : ℕ} {before out queue awaited : List ℕ} {tail : ℕ}
    (look : Looks g to next from head i queue out tail) (st : Spread g w target before head (take i (sources 0 g to)) out queue awaited tail) where
  from_may : May g from to
  from_may = (preds_may g to from).0 (subst (λ (n : ℕ). Among n (sources 0 g to)) look.from_is (at_among (sources 0 g to) i look.inside))

  pub from_here : from < length g
  from_here = from_place g from to from_may

  more : (n : ℕ) → times n (take (i + 1) (sources 0 g to)) ≡ times n (take i (sources 0 g to)) + one_if (eqb from n)
  more n = times_more n (sources 0 g to) i look.inside ∙ ap (λ (k : ℕ). times n (take i (sources 0 g to)) + one_if (eqb k n)) look.from_is

  enough : times from (take i (sources 0 g to)) + 1 ≤ times (get_or queue head 0) (moves g from)
  enough =
      let a : times from (take i (sources 0 g to)) < times from (sources 0 g to) = subst (λ (k : ℕ). times k (take i (sources 0 g to)) < times k (sources 0 g to)) look.from_is (times_here (sources 0 g to) i look.inside) in
      let b : times (get_or queue head 0) (moves g from) ≡ times to (moves g from) = ap (λ (k : ℕ). times k (moves g from)) look.head_is in
      omega (arith, preds_times g to from)

  pub look_awaits : number out from ≡ never → (whose g from ≡ w → ⊥) → 0 < get_or awaited from 0
  look_awaits none theirs = (st.waits from from_here theirs none).0

  pub look_room : number out from ≡ never → tail < length g
  look_room none = spread_room reads st from from_here none

  pub look_stays : (number out from ≡ never → ⊥) → Spread g w target before head (take (i + 1) (sources 0 g to)) out queue awaited tail × Kept out queue tail out queue tail
  look_stays d = (spread_stays reads st (take (i + 1) (sources 0 g to)) from_here look.within more d, kept_same out queue tail)

  module _ (awaited' : List ℕ) (none : number out from ≡ never) (long : length g ≤ length awaited) where
    kept : {r : Bool} → Waited g w from awaited awaited' r → (n : ℕ) → (n ≡ from → ⊥) → get_or awaited' n 0 ≡ get_or awaited n 0
    kept {r} t n d = go (cases_eq (whose g from) w)
      where
        go : (whose g from ≡ w) ⊎ (whose g from ≡ w → ⊥) → get_or awaited' n 0 ≡ get_or awaited n 0
        go (inl e) = ap (λ (l : List ℕ). get_or l n 0) (t.own e).0
        go (inr o) = ap (λ (l : List ℕ). get_or l n 0) (t.theirs o).0 ∙ get_or-set_other awaited from n (get_or awaited from 0 - 1) 0 d

    less : {r : Bool} → Waited g w from awaited awaited' r → (whose g from ≡ w → ⊥) → get_or awaited' from 0 + 1 ≡ get_or awaited from 0
    less {r} t o =
        let a : get_or awaited' from 0 ≡ get_or awaited from 0 - 1 = ap (λ (l : List ℕ). get_or l from 0) (t.theirs o).0 ∙ get_or-set_same awaited from (get_or awaited from 0 - 1) 0 (omega (arith, from_here)) in
        omega (arith, look_awaits none o)

    pub look_waits : Waited g w from awaited awaited' true → Spread g w target before head (take (i + 1) (sources 0 g to)) out queue awaited' tail × Kept out queue tail out queue tail
    look_waits t = (go (cases_eq (whose g from) w), kept_same out queue tail)
      where
        go : (whose g from ≡ w) ⊎ (whose g from ≡ w → ⊥) → Spread g w target before head (take (i + 1) (sources 0 g to)) out queue awaited' tail
        go (inl e) = absurd (both_ways true (t.own e).1 refl)
        go (inr o) = spread_waits reads st (take (i + 1) (sources 0 g to)) from_here look.within more awaited' o none (kept t) (less t o) (ltb-true 0 (get_or awaited' from 0) (sym (t.theirs o).1))

    pub look_comes : Waited g w from awaited awaited' false → 2 * length g ≤ length out → length g ≤ length queue →
        Spread g w target before head (take (i + 1) (sources 0 g to)) (set (set out (2 * from) next) (2 * from + 1) to) (set queue tail from) awaited' (tail + 1) × Kept out queue tail (set (set out (2 * from) next) (2 * from + 1) to) (set queue tail from) (tail + 1)
    look_comes t room space = (
      spread_comes reads st (take (i + 1) (sources 0 g to)) from_here look.within more (set (set out (2 * from) next) (2 * from + 1) to) (set queue tail from) awaited' next_is none there all (put_unchanged out from next to wide) gets (put_goes out from next to wide ∙ sym look.head_is) front last (kept t),
      comes_kept reads st (take (i + 1) (sources 0 g to)) from_here look.within more (set (set out (2 * from) next) (2 * from + 1) to) (set queue tail from) awaited' next_is none there all (put_unchanged out from next to wide) gets (put_goes out from next to wide ∙ sym look.head_is) front last (kept t),
    )
      where
        wide : 2 * from + 1 < length out
        wide = omega (arith, from_here)

        next_is : next ≡ number out (get_or queue head 0) + 1
        next_is = look.next_is ∙ ap (λ (k : ℕ). number out k + 1) (sym look.head_is)

        there : May g from (get_or queue head 0)
        there = subst (May g from) (sym look.head_is) from_may

        all : (whose g from ≡ w → ⊥) → (m : ℕ) → May g from m → number out m ≤ number out (get_or queue head 0)
        all o = all_in reads st (take (i + 1) (sources 0 g to)) from_here look.within more o none (let z : get_or awaited' from 0 ≤ 0 = ltb-false 0 (get_or awaited' from 0) (sym (t.theirs o).1) in omega (arith, less t o)) enough

        gets : number (set (set out (2 * from) next) (2 * from + 1) to) from ≡ next
        gets = get_or-set_other (set out (2 * from) next) (2 * from + 1) (2 * from) to 0 (λ e. omega arith) ∙ get_or-set_same out (2 * from) next 0 (omega (arith, wide))

        front : (j : ℕ) → j < tail → get_or (set queue tail from) j 0 ≡ get_or queue j 0
        front j h = get_or-set_other queue tail j from 0 (omega arith)

        last : get_or (set queue tail from) tail 0 ≡ from
        last = get_or-set_same queue tail from 0 (omega (arith, look_room none))

-- all that may move to the place at the head has been looked at
pub look_all : {s : List ℕ} {g : Game} → Reads s g → {w target to head i : ℕ} {before out queue awaited : List ℕ} {tail : ℕ} → length (sources 0 g to) ≤ i → head < tail → get_or queue head 0 ≡ to →
    Spread g w target before head (take i (sources 0 g to)) out queue awaited tail → Spread g w target before (head + 1) [] out queue awaited tail
look_all {s} {g} reads {w} {target} {to} {head} {i} done within is st =
    spread_next reads st within (λ n. ap (times n) (take_all i (sources 0 g to) done) ∙ preds_times g to n ∙ ap (λ (k : ℕ). times k (moves g n)) (sym is))
