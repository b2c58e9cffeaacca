-- The recursion over weights: from what its steps do to what they mean, and the room for the level below.
use Rattle.std.proofs.Common.{◌≡◌, ℕ, ◌+◌, ◌-◌, ◌*◌, ◌%◌, ◌<◌, ◌≤◌, true, eqb, ◌⊎◌, List, length, sym, refl, ap, ◌∙◌, subst, inl, inr, mul-le-mul_right, add-mul, arith}
use Rattle.std.proofs.lemmas.Bool.{both_ways, lt-ltb, eq-eqb}
use Rattle.endless.specs.Games.{Game, weight, May}
use Rattle.endless.specs.Says.{side, goes}
use Rattle.endless.specs.Sets.{Set, In, Out, Within, minus, having}
use Rattle.endless.specs.Subgames.{Subgame, Closed, Solves}
use Rattle.endless.specs.Bits.{members, count, size}
use Rattle.endless.specs.Weights.{weighing, occurs}
use Rattle.endless.specs.View.{Playable}
use Rattle.endless.specs.Ways.{Counted}
use Rattle.endless.specs.Pulling.{Unchanged, Moved, Starts, Attracts}
use Rattle.endless.specs.Desks.{SameDesk}
use Rattle.endless.specs.declared.desk.Desk.{Desk}
use Rattle.endless.specs.Levels.{HeaviestIn, GatheredIn, Brought, Peeled, Peels, Reduces, levels, Room}
use Rattle.endless.proofs.Tests.{T_true, true_T}
use Rattle.endless.proofs.Sets.{in_or_out, minus_in, minus_out, having_in, having_within}
use Rattle.endless.proofs.CountLaws.{count_more_yes, count_add, some_count}
use Rattle.endless.proofs.SetLaws.{size_none, size_some, size_sub}
use Rattle.endless.proofs.Steps.{rest_subgame, subgame_as, closed_subgame}
use Rattle.endless.proofs.Working.{unchanged_goes, same_side}
use Rattle.endless.proofs.Turns.{minus_twice, twice_minus, reduces_none, reduces_then, reduces_all, turn_reduces}

-- an answer is changed only where places are taken from what is left
abbrev pub Frame : List ℕ → List ℕ → List ℕ → List ℕ → Type 0
Frame left left' out out' = (n : ℕ) → (In (members left) n → In (members left') n) → Unchanged out out' n

-- targets are not touched by going through the queue
kept_targets : {U D : Set} {l q : List ℕ} {k : ℕ} (l' o o' : List ℕ) → Starts U D l q k → Frame l l' o o' → (n : ℕ) → In D n → Unchanged o o' n
kept_targets l' o o' st frame n d = frame n (λ x. absurd (st.apart n d x))

-- the heaviest places of a closed part in the queue, each with a move within the part, then their attractor
pub brought_in : {g : Game} {V U : Set} {w h : ℕ} {l q o : List ℕ} {k : ℕ} {l' q' o' e' : List ℕ} {t : ℕ} → Subgame g V → Closed g V U → length o' ≡ length o → GatheredIn g U V w h l q o k → Moved l q k l' q' t → Frame l l' o o' → Attracts g U w (having U (weight g) h) l' q' o' e' t → Brought g U w h (members l') o'
brought_in {g = g} {U = U} {w = w} {h = h} {o = o} {l' = l'} {o' = o'} sub closed long ga m frame at = record {
  within = λ n x. ga.starts.rest n (m.less n x);
  rank = at.rank;
  attractor = at.attractor;
  labelled = λ n u x. labelled n u x (in_or_out (having U (weight g) h) n);
  moves = moves;
}
  where
    same : (n : ℕ) → In (having U (weight g) h) n → Unchanged o o' n
    same = kept_targets l' o o' ga.starts frame

    labelled : (n : ℕ) → In U n → Out (members l') n → In (having U (weight g) h) n ⊎ Out (having U (weight g) h) n → side o' n ≡ w
    labelled n u x (inl d) = same_side o o' n long (same n d) ∙ ga.labelled n d
    labelled n u x (inr d) = at.labelled n u d x

    moves : (n : ℕ) → In (having U (weight g) h) n → May g n (goes o' n) × In U (goes o' n)
    moves n d =
        let u = having_within U (weight g) h n d in
        let t = sub.goes_on n (closed.within n u) in
        let s = ga.stays n d t.0 t.1 t.2 in
        subst (λ (j : ℕ). May g n j × In U j) (sym (unchanged_goes o o' n (same n d))) (s.0, closed.stays n (goes o n) u s.0 s.1)

-- what is lost in the queue, then its attractor
pub peeled_of : {g : Game} {U X : Set} {w : ℕ} {l q o : List ℕ} {k : ℕ} {l' q' o' e' : List ℕ} {t : ℕ} → Starts U X l q k → Moved l q k l' q' t → Frame l l' o o' → Attracts g U w X l' q' o' e' t → Peeled g U w X (members l') o o'
peeled_of {o = o} {l' = l'} {o' = o'} st m frame at = record {
  within = λ n x. st.rest n (m.less n x);
  rank = at.rank;
  attractor = at.attractor;
  labelled = at.labelled;
  kept = kept_targets l' o o' st frame;
}

-- where a whole part is in the queue, what is left is outside of it
pub left_counted : (g : Game) {U D : Set} (R : Set) {l q : List ℕ} {k : ℕ} (escapes : List ℕ) → Starts U D l q k → Within R D → Counted g U (minus U R) escapes → Counted g U (members l) escapes
left_counted g {U = U} R escapes st inside counted n x = counted n (minus_in U R n (st.rest n x) (λ r. st.apart n (inside n r) x))

-- a place's weight occurs, and so there is a level less below it
pub weight_occurs : (g : Game) (n h : ℕ) → n < length g → weight g n ≡ h → occurs g h ≡ true
weight_occurs g n h l e = lt-ltb 0 (weighing g h) (some_count (λ m. eqb (weight g m) h) (length g) n l (eq-eqb (weight g n) h e))

pub levels_fall : (g : Game) (n h bound : ℕ) → n < length g → weight g n ≡ h → h < bound → levels g h + 1 ≤ levels g bound
levels_fall g n h bound l e b =
    let more = count_more_yes (occurs g) h (weight_occurs g n h l e) in
    let rest : (h + 1) + (bound - (h + 1)) ≡ bound = omega arith in
    omega (arith, more, count_add (occurs g) (h + 1) (bound - (h + 1)), ap (count (occurs g)) rest)

-- what is left when an attractor is taken is a subgame
pub brought_subgame : {g : Game} {U B : Set} {w h : ℕ} {out : List ℕ} → Subgame g U → Brought g U w h B out → Subgame g B
brought_subgame {U = U} {B = B} sub b = subgame_as (minus U (minus U B)) B (minus_twice U B b.within) (twice_minus U B b.within) (rest_subgame sub b.attractor)

-- the same desk, time after time
pub desk_then : {a b c : Desk} → SameDesk a b → SameDesk b c → SameDesk a c
desk_then s t = record { out = t.out ∙ s.out; queue = t.queue ∙ s.queue; via = t.via ∙ s.via; escapes = t.escapes ∙ s.escapes; out_long = t.out_long ∙ s.out_long; queue_long = t.queue_long ∙ s.queue_long; via_long = t.via_long ∙ s.via_long; escapes_long = t.escapes_long ∙ s.escapes_long }

pub desk_none : (a : Desk) → SameDesk a a
desk_none a = record { out = refl; queue = refl; via = refl; escapes = refl; out_long = refl; queue_long = refl; via_long = refl; escapes_long = refl }

-- the room for the level below
pub room_below : {g : Game} {bound h w : ℕ} {own rest : List ℕ} {desk : Desk} (part : List ℕ) {left deeper : List ℕ} {desk' : Desk} → Room g bound own rest desk → Closed g (members own) (members part) → HeaviestIn g (members part) h → Brought g (members part) w h (members left) desk'.out.now →
    length left ≡ length own → length deeper ≡ length rest - length own → SameDesk desk desk' → Room g h left deeper desk'
room_below {g = g} {bound = bound} {h = h} {own = own} part {left = left} {deeper = deeper} r closed heavy b long-l long-d same-d = record {
  subgame = brought_subgame (closed_subgame r.subgame closed) b;
  light = light;
  sized = record { sets = omega (arith, r.sized.sets); answers = omega (arith, r.sized.answers, same-d.out_long); counts = omega (arith, r.sized.counts, same-d.escapes_long) };
  queues = omega (arith, r.queues, same-d.queue_long, fewer);
  beside = omega (arith, r.beside, same-d.via_long, fewer);
  small = omega (arith, r.small);
  sets = sets;
}
  where
    fewer : size left ≤ size own
    fewer = size_sub left own long-l (λ j x. T_true _ (closed.within j (b.within j (true_T _ x))))

    light : (n : ℕ) → In (members left) n → weight g n < h
    light n x = omega (arith, heavy.most n (b.within n x), unequal)
      where
        unequal : weight g n ≡ h → ⊥
        unequal e = minus_out (members part) (members left) n (b.attractor.targets n (having_in (members part) (weight g) h n (b.within n x) e)) x

    sets : levels g h * length left ≤ length deeper
    sets =
        let t = heavy.some_place in
        let fall = levels_fall g t.0 h bound (r.subgame.places t.0 (closed.within t.0 t.1)) t.2 (omega (arith, r.light t.0 (closed.within t.0 t.1), t.2)) in
        let wide = mul-le-mul_right (length own) fall in
        let split = add-mul (levels g h) 1 (length own) in
        let same : levels g h * length left ≡ levels g h * length own = ap (λ (k : ℕ). levels g h * k) long-l in
        omega (arith, wide, split, same, r.sets, long-d)

-- turns so far: what is left, and the answer
pub record Leveling (g : Game) (own out own' out' : List ℕ) : Type 0 where
  pub less : Within (members own') (members own)
  pub frame : (n : ℕ) → Out (members own) n → Unchanged out out' n
  pub reduces : Subgame g (members own) → Reduces g (members own) (members own') out'

pub leveling_none : (g : Game) (own out : List ℕ) → Leveling g own out own out
leveling_none g own out = record { less = λ n x. x; frame = λ n x. (refl, refl); reduces = reduces_none g (members own) out }

-- one turn more: the heaviest places of a closed part are brought about (o₁ to o₂), the rest is solved (to o₃), what is lost is peeled off (to o₄)
pub record Turn (g : Game) (p q h : ℕ) (own o₁ part left o₂ o₃ own' o₄ : List ℕ) : Type 0 where
  pub playable : Playable g
  pub sides : (p < 2) × (q < 2) × (q ≡ p → ⊥) × (h % 2 ≡ p)
  pub lengths : (length o₂ ≡ length o₁) × (length o₃ ≡ length o₂) × (length o₄ ≡ length o₃)
  pub inside : Within (members left) (members own)
  pub less : Within (members own') (members own)
  pub closed : Closed g (members own) (members part)
  pub heaviest : HeaviestIn g (members part) h
  pub first_frame : (n : ℕ) → Out (members own) n → Unchanged o₁ o₂ n
  pub brought : Subgame g (members own) → Brought g (members part) p h (members left) o₂
  pub second_frame : (n : ℕ) → Out (members left) n → Unchanged o₂ o₃ n
  pub solved : Subgame g (members left) → Solves g (members left) (side o₃) (goes o₃)
  pub third_frame : (n : ℕ) → Out (members own) n → Unchanged o₃ o₄ n
  pub peels : Subgame g (members own) → Peels g (members own) (members part) p q (members own') o₃ o₄

pub then_unchanged : (a b c : List ℕ) (n : ℕ) → Unchanged a b n → Unchanged b c n → Unchanged a c n
then_unchanged a b c n u v = (v.0 ∙ u.0, v.1 ∙ u.1)

pub leveling_more : {g : Game} {own out own₁ o₁ part left o₂ o₃ own₂ o₄ : List ℕ} {p q h : ℕ} → Leveling g own out own₁ o₁ → Turn g p q h own₁ o₁ part left o₂ o₃ own₂ o₄ → Leveling g own out own₂ o₄
leveling_more {g} {own} {out} {own₁} {o₁} {part} {left} {o₂} {o₃} {own₂} {o₄} {p} {q} {h} k t = record {
  less = λ n x. k.less n (t.less n x);
  frame = λ n x. then_unchanged out o₁ o₄ n (k.frame n x) (frame n (λ y. x (k.less n y)));
  reduces = λ sub.
      let before = k.reduces sub in
      let brought = t.brought before.rest in
      reduces_then g (members own) (members own₁) (members own₂) o₁ o₄ t.less (t.lengths.2 ∙ t.lengths.1 ∙ t.lengths.0) frame before
      (turn_reduces t.playable (members own₁) (members part) (members left) (members own₂) p q h o₂ o₃ o₄ t.sides.0 t.sides.1 t.sides.2 t.sides.3 before.rest t.closed t.heaviest brought t.lengths.1 t.second_frame
      (t.solved (brought_subgame (closed_subgame before.rest t.closed) brought)) t.lengths.2 (t.peels before.rest));
}
  where
    frame : (n : ℕ) → Out (members own₁) n → Unchanged o₁ o₄ n
    frame n x = then_unchanged o₁ o₂ o₄ n (t.first_frame n x) (then_unchanged o₂ o₃ o₄ n (t.second_frame n (λ y. x (t.inside n y))) (t.third_frame n x))

pub leveling_all : {g : Game} {own out own' out' : List ℕ} → size own' ≡ 0 → Leveling g own out own' out' → Subgame g (members own) → Solves g (members own) (side out') (goes out')
leveling_all {g} {own} {out} {own'} {out'} none k sub = reduces_all g (members own) (members own') out' (λ n x. both_ways (members own' n) (size_none own' none n) (T_true _ x)) (k.reduces sub)

-- nothing is left to solve
pub solves_none : (g : Game) (left out : List ℕ) → size left ≡ 0 → Subgame g (members left) → Solves g (members left) (side out) (goes out)
solves_none g left out none = leveling_all none (leveling_none g left out)

-- the room of a level is that of what is left in it
pub room_now : {g : Game} {bound : ℕ} {own rest own' rest' : List ℕ} {desk desk' : Desk} → Room g bound own rest desk → Leveling g own desk.out.now own' desk'.out.now →
    length own' ≡ length own → length rest' ≡ length rest → SameDesk desk desk' → Room g bound own' rest' desk'
room_now {g = g} {bound = bound} {own = own} {own' = own'} r k long-w long-r same-d = record {
  subgame = (k.reduces r.subgame).rest;
  light = λ n x. r.light n (k.less n x);
  sized = record { sets = omega (arith, r.sized.sets); answers = omega (arith, r.sized.answers, same-d.out_long); counts = omega (arith, r.sized.counts, same-d.escapes_long) };
  queues = omega (arith, r.queues, same-d.queue_long, fewer);
  beside = omega (arith, r.beside, same-d.via_long, fewer);
  small = omega (arith, r.small);
  sets = omega (arith, r.sets, ap (λ (k : ℕ). levels g bound * k) long-w);
}
  where
    fewer : size own' ≤ size own
    fewer = size_sub own' own long-w (λ j x. T_true _ (k.less j (true_T _ x)))

-- the weights below are lighter
pub room_light : {g : Game} {bound h : ℕ} {own rest : List ℕ} {desk : Desk} (part : List ℕ) → Room g bound own rest desk → Closed g (members own) (members part) → HeaviestIn g (members part) h → h < bound
room_light part r closed heavy = let t = heavy.some_place in omega (arith, r.light t.0 (closed.within t.0 t.1), t.2)

-- where a place is left there is room for the set of the level below
pub room_set : {g : Game} {bound : ℕ} {own rest : List ℕ} {desk : Desk} → Room g bound own rest desk → 0 < size own → length own ≤ length rest
room_set {g = g} {bound = bound} {own = own} r some =
    let t = size_some own some in
    let mine = true_T _ t.1 in
    let fall = levels_fall g t.0 (weight g t.0) bound (r.subgame.places t.0 mine) refl (r.light t.0 mine) in
    omega (arith, mul-le-mul_right (length own) fall, add-mul (levels g (weight g t.0)) 1 (length own), r.sets)
