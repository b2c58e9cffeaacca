-- One move after the other is tried, those of a place, and those of all places.
use Rattle.std.proofs.Common.{◌≡◌, ℕ, ◌+◌, ◌-◌, ◌*◌, ◌<◌, ◌≤◌, ◌↔◌, List, ◌++◌, length, take, drop, replicate, sym, refl, ap, ◌∙◌, subst, arith}
use Rattle.endless.specs.Games.{Game, Reads, whose, May}
use Rattle.endless.specs.Says.{WinsFrom, side, goes}
use Rattle.endless.specs.Graph.{edges, moves}
use Rattle.endless.specs.View.{words_of}
use Rattle.endless.specs.Sets.{In}
use Rattle.endless.specs.Subgames.{Subgame, Solves}
use Rattle.endless.specs.Bits.{members}
use Rattle.endless.specs.Checked.{IsAnswer}
use Rattle.endless.proofs.Places.{to_place}
use Rattle.moves.specs.Alone.{alone}
use Rattle.moves.specs.Moves.{origin, target, Given, WinningMove}
use Rattle.moves.specs.Marking.{before, Makes, Noted, Marking}
use Rattle.moves.specs.Led.{led, Avoids}
use Rattle.moves.specs.Tries.{Going, Same, TriesPlace, TriesAll}
use Rattle.moves.specs.declared.solved.Solved.{Solved}
use Rattle.moves.specs.declared.trying.Trying.{Trying}
use Rattle.moves.proofs.Alone.{reads_alone}
use Rattle.moves.proofs.Lists.{before_more, before_most, before_all, origin_at, step_may, words_alone}
use Rattle.moves.proofs.Trials.{alone_subgame, makes_none, makes_one, makes_within}
use Rattle.moves.proofs.Avoiding.{avoids_winning}
use Rattle.moves.proofs.Marks.{noted_makes, marking_plan, marking_more}

-- ---- one move of a place

module _ {s : List ℕ} {g : Game} (reads : Reads s g) {n first k : ℕ} (place : n < length g) (first_is : first ≡ before g n) (low : first ≤ k) (high : k < first + length (moves g n)) where
  pub step_inside : k < edges g
  step_inside = omega (arith, before_more g n place, before_most g (n + 1))

  step_origin : origin g k ≡ n
  step_origin = let e : k ≡ before g n + (k - first) = omega arith in ap (origin g) e ∙ origin_at g n (k - first) place (omega arith)

  module _ {m : ℕ} (to_is : m ≡ target g k) where
    step_move : May g n m
    step_move = subst (May g n) (sym to_is) (subst (λ (i : ℕ). May g i (target g k)) step_origin (step_may g k step_inside))

    pub step_to : m < length g
    step_to = to_place reads n m step_move

    -- the words that are made for it are those of the game in which it is alone
    pub step_made : {at c : ℕ} {words made : List ℕ} → words ≡ words_of g → at ≡ 4 + 3 * n + first → c ≡ length (moves g n) → made ≡ take at words ++ (replicate c m ++ drop (at + c) words) → Reads made (alone g n m)
    step_made {at} {c} {words} {made} words_are at_is many made_are =
        let w : words_of (alone g n m) ≡ take at (words_of g) ++ (replicate c m ++ drop (at + c) (words_of g)) = words_alone g n m at c place (omega arith) many in
        let e : made ≡ words_of (alone g n m) = made_are ∙ ap (λ (l : List ℕ). take at l ++ (replicate c m ++ drop (at + c) l)) words_are ∙ sym w in
        subst (λ (l : List ℕ). Reads l (alone g n m)) (sym e) (reads_alone reads n m step_to)

    there : (a : List ℕ) → WinningMove g (side a) (origin g k) (target g k) → WinningMove g (side a) n m
    there a x = subst (WinningMove g (side a) n) (sym to_is) (subst (λ (i : ℕ). WinningMove g (side a) i (target g k)) step_origin x)

    -- where no play by the answer's plan comes from there to the place again
    pub step_avoids : {a : List ℕ} → IsAnswer g a → {w : ℕ} → side a n ≡ w → whose g n ≡ w → side a m ≡ side a n → Avoids (led g a (length g)) m n → WinningMove g (side a) (origin g k) (target g k)
    step_avoids {a} answer {w} won turn stays avoids =
        subst (WinningMove g (side a) (origin g k)) to_is (subst (λ (i : ℕ). WinningMove g (side a) i m) (sym step_origin) (avoids_winning reads answer n m step_move (turn ∙ sym won) stays avoids))

    -- where its side is not to move, or the move leaves its places
    pub step_leaves : (a : List ℕ) → (whose g n ≡ side a n → side a m ≡ side a n → ⊥) → WinningMove g (side a) (origin g k) (target g k) → ⊥
    step_leaves a d x = let y = there a x in d y.turn (makes_within place y)

    -- the set has the places that its side wins
    module _ {a : List ℕ} (answer : IsAnswer g a) {w places : ℕ} (won : side a n ≡ w) (stays : side a m ≡ side a n) (places_are : places ≡ length g) (set : List ℕ) (given : (j : ℕ) → (In (members set) j ↔ ((j < places) × (side a j ≡ w)))) where
      step_given : (j : ℕ) → (In (members set) j ↔ Given g (side a) (side a n) j)
      step_given j = (λ x. let t = (given j).0 x in (omega (arith, t.0, places_are), t.1 ∙ sym won), λ t. (given j).1 (omega (arith, t.0, places_are), t.1 ∙ won))

      pub step_subgame : Subgame (alone g n m) (members set)
      step_subgame = alone_subgame reads answer n m step_move stays (members set) step_given

      module _ (p : List ℕ) (tried : Solves (alone g n m) (members set) (side p) (goes p)) where
        pub step_fails : (side p n ≡ side a n → ⊥) → WinningMove g (side a) (origin g k) (target g k) → ⊥
        step_fails d x = makes_none reads answer n m step_move stays (members set) step_given p tried d (there a x)

        pub step_wins : {before-all o o' : List ℕ} → whose g n ≡ w → side p n ≡ w → Marking g (side a) before-all k o → Noted g (side a) w (goes p) k (edges g) o o' → Marking g (side a) before-all (k + 1) o'
        step_wins {before-all} {o} {o'} turn wins marking noted =
            let t = makes_one reads answer n m step_move stays (members set) step_given p tried (turn ∙ sym won) (wins ∙ sym won) in
            let plan : WinsFrom g w (goes p) (Given g (side a) w) = subst (λ (v : ℕ). WinsFrom g v (goes p) (Given g (side a) v)) won t.0 in
            let here : Makes g (side a) w (goes p) n m = record { won = won; turn = turn; makes = t.1 } in
            let these : Makes g (side a) w (goes p) (origin g k) (target g k) = subst (Makes g (side a) w (goes p) (origin g k)) to_is (subst (λ (j : ℕ). Makes g (side a) w (goes p) j m) (sym step_origin) here) in
            marking_more (marking_plan marking plan noted) (λ x. noted_makes step_inside noted these)

-- ---- one after the other

pub same_now : (a : Trying) → Same a a
same_now a = record { solved = refl; led = refl; out = refl; part = refl; queue = refl; made = refl; tried = refl; work = refl }

pub same_then : {a b c : Trying} → Same a b → Same b c → Same a c
same_then same then = record { solved = then.solved ∙ same.solved; led = then.led ∙ same.led; out = then.out ∙ same.out; part = then.part ∙ same.part; queue = then.queue ∙ same.queue; made = then.made ∙ same.made; tried = then.tried ∙ same.tried; work = then.work ∙ same.work }

-- from k moves seen to on up to j
pub record Tried (a : Trying) (k j : ℕ) (b : Trying) : Type 0 where
  pub same : Same a b
  pub going : (first : List ℕ) → Going a first k → Going b first j

pub tried_none : (a : Trying) (k : ℕ) → Tried a k k a
tried_none a k = record { same = same_now a; going = λ first m. m }

pub tried_then : {a b c : Trying} {k j i : ℕ} → Tried a k j b → Same b c → ((first : List ℕ) → Going b first j → Going c first i) → Tried a k i c
tried_then t then tries = record { same = same_then t.same then; going = λ first m. tries first (t.going first m) }

-- all moves of a place
pub tried_place : {a b : Trying} {n first k : ℕ} → n < length a.solved.places.now → first ≡ before a.solved.places.now n → Tried a first k b → k ≡ first + length (moves a.solved.places.now n) → TriesPlace a n b
tried_place {a} {b} {n} {first} {k} h e t d before-all m =
    let z : k ≡ before a.solved.places.now (n + 1) = omega (arith, before_more a.solved.places.now n h) in
    subst (Going b before-all) z (t.going before-all (subst (Going a before-all) (sym e) m))

-- those of one place after the other
pub record Walked (a : Trying) (n first : ℕ) (b : Trying) : Type 0 where
  pub first_is : first ≡ before a.solved.places.now n
  pub tried : Tried a 0 first b

pub walked_none : (a : Trying) → Walked a 0 0 a
walked_none a = record { first_is = refl; tried = tried_none a 0 }

pub walked_more : {a b c : Trying} {n first count : ℕ} → n < length a.solved.places.now → Walked a n first b → count ≡ length (moves a.solved.places.now n) → Same b c → TriesPlace b n c → Walked a (n + 1) (first + count) c
walked_more {a} {b} {c} {n} {first} {count} h w many same tries =
    let g : Game = a.solved.places.now in
    let e : b.solved ≡ a.solved = w.tried.same.solved in
    let these : (before-all : List ℕ) → Going b before-all (before g n) → Going c before-all (before g (n + 1)) = subst (λ (v : Solved). (before-all : List ℕ) → Going b before-all (before v.places.now n) → Going c before-all (before v.places.now (n + 1))) e tries in
    let z : before g (n + 1) ≡ first + count = omega (arith, before_more g n h, w.first_is) in
    record {
      first_is = sym z;
      tried = tried_then w.tried same (λ before-all m. subst (Going c before-all) z (these before-all (subst (Going b before-all) w.first_is m)));
    }

pub walked_all : {a b : Trying} {n first : ℕ} → n ≡ length a.solved.places.now → Walked a n first b → TriesAll a b
walked_all {a} {b} {n} {first} e w before-all m =
    let z : first ≡ edges a.solved.places.now = w.first_is ∙ ap (before a.solved.places.now) e ∙ before_all a.solved.places.now in
    subst (Going b before-all) z (w.tried.going before-all m)
