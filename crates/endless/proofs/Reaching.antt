-- The places from which a side can bring every play to a target, and what `attract_to` promises.
use Rattle.std.proofs.Common.{◌≡◌, ℕ, suc, ◌+◌, ◌*◌, ◌<◌, ◌≤◌, ◌⊎◌, List, [], ◌∷◌, length, get_or, set, sym, refl, ap, ◌∙◌, subst, inl, inr, arith}
use Rattle.std.specs.Prelude.{Err, Result}
use Rattle.std.proofs.lemmas.List.{get_or-set_same}
use Rattle.std.proofs.lemmas.Bool.{cases_eq}
use Rattle.endless.specs.declared.refusal.Refusal.{Refusal}
use Rattle.endless.specs.declared.refusal.Refusal.TheVariants.{Few, NoGame, NoPlace, OutFull}
use Rattle.endless.specs.Games.{Game, Reads, whose, May, Play, Plays, other}
use Rattle.endless.specs.Says.{side, goes}
use Rattle.endless.specs.Sets.{Set, In, Out, minus, whole, having}
use Rattle.endless.specs.Attractors.{Attractor}
use Rattle.endless.specs.Bits.{members, Removed}
use Rattle.endless.specs.Listed.{listed_from}
use Rattle.endless.specs.Graph.{moves as moves-of}
use Rattle.endless.specs.Ways.{ways, queued, Counted}
use Rattle.endless.specs.Pulling.{Unchanged, Starts, Moved, Attracts}
use Rattle.endless.specs.Levels.{Stays, Given}
use Rattle.endless.specs.declared.desk.Desk.{Desk}
use Rattle.endless.specs.Layout.{Fresh}
use Rattle.endless.specs.Accepting.{Accepts}
use Rattle.endless.specs.Reaching.{Handed, HandedTo, Reaches, ReachedSays, ReachPost}
use Rattle.endless.proofs.Places.{from_place, has_move, to_place, is_other, not_other, other_below}
use Rattle.endless.proofs.Sets.{in_or_out, minus_in, minus_within, minus_out, whole_in, whole_place, having_in, having_within, having_is}
use Rattle.endless.proofs.Attractors.{attractor_least, attractor_brings, attractor_past, attractor_own, attractor_laws}
use Rattle.endless.proofs.Ways.{ways_alike, total_kept}
use Rattle.endless.proofs.Removed.{removed_out, removed_within, removed_which}
use Rattle.endless.proofs.Working.{unchanged_goes, same_side}
use Rattle.endless.proofs.Behind.{Behind, behind_none, behind_first, behind_more, behind_all}
use Rattle.endless.proofs.Gathering.{given_same, given_length, given_side, given_stays}
use Rattle.endless.proofs.Levels.{Frame}
use Rattle.endless.proofs.Layouts.{filled_whole, whole_filled}

-- ---- the places of a set are given to a side, one after the other

-- those that are not left have been given
pub record Handing (g : Game) (w : ℕ) (set left out out' : List ℕ) : Type 0 where
  pub frame : (n : ℕ) → Out (members set) n → Unchanged out out' n
  pub behind : Behind set (HandedTo g w (members set) out') left

pub handed_none : {g : Game} {w : ℕ} (set out : List ℕ) {left : List ℕ} → left ≡ listed_from 0 set → Handing g w set left out out
handed_none set out e = record { frame = λ n o. (refl, refl); behind = behind_none set _ e }

module _ {g : Game} {w : ℕ} {set left out out' : List ℕ} (so_far : Handing g w set left out out') where
  pub handed_first : {m : ℕ} {rest : List ℕ} → left ≡ m ∷ rest → In (members set) m
  handed_first e = behind_first e so_far.behind

  pub handed_more : {m : ℕ} {rest out'' : List ℕ} → left ≡ m ∷ rest → 2 * m + 1 < length out' → Given g w m (members set) out' out'' → Handing g w set rest out out''
  handed_more {m} {rest} {out''} e room t = record {
    frame = λ n o.
        let a = so_far.frame n o in
        let b = given_same room t n (λ s. o (subst (In (members set)) (sym s) (handed_first e))) in
        (b.0 ∙ a.0, b.1 ∙ a.1);
    behind = behind_more e so_far.behind (λ n d h. still n d h) (record { labelled = given_side room t; stays = given_stays room t });
  }
    where
      still : (n : ℕ) → (n ≡ m → ⊥) → HandedTo g w (members set) out' n → HandedTo g w (members set) out'' n
      still n d h = record {
        labelled = same_side out' out'' n (given_length room t) (given_same room t n d) ∙ h.labelled;
        stays = subst (Stays g (members set) n) (sym (unchanged_goes out' out'' n (given_same room t n d))) h.stays;
      }

  pub handed_all : left ≡ [] → Handed g w (members set) out out'
  handed_all e = record { frame = so_far.frame; all = behind_all e so_far.behind }

-- ---- the one target, and the rest of the game

abbrev pub Only : Game → ℕ → Set
Only g target = having (whole g) (λ n. n) target

pub only_starts : {g : Game} {left left' : List ℕ} {desk : Desk} {target : ℕ} → Fresh g left desk → target < length g → Removed left target left' → Starts (whole g) (Only g target) left' (set desk.queue.now 0 target) 1
only_starts {g} {left} {left'} {desk} {target} fresh place rem = record {
  rest = λ n x. filled_whole g left fresh.are n (removed_within left target left' rem n x);
  inside = having_within (whole g) (λ n. n) target;
  apart = λ n d. subst (λ (m : ℕ). Out (members left') m) (sym (having_is (whole g) (λ n. n) target n d)) (removed_out left target left' rem);
  covers = λ n u o. having_in (whole g) (λ n. n) target n u (covers n o (removed_which left target left' rem n (whole_filled g left fresh.are n u)));
  first = λ j h. let e : j ≡ 0 = omega arith in subst (λ (n : ℕ). In (Only g target) n) (sym (ap (λ (i : ℕ). get_or (set desk.queue.now 0 target) i 0) e ∙ here)) (having_in (whole g) (λ n. n) target target (whole_in g target place) refl);
  all = λ n d. (0, omega arith, here ∙ sym (having_is (whole g) (λ n. n) target n d));
  total = λ ms. total_kept left desk.queue.now 0 target (omega (arith, fresh.queues)) (whole_filled g left fresh.are target (whole_in g target place)) rem refl ms ∙ ways_whole ms;
}
  where
    here : get_or (set desk.queue.now 0 target) 0 0 ≡ target
    here = get_or-set_same desk.queue.now 0 target 0 (omega (arith, fresh.queues))

    -- all of a game's places, as bits or as a test
    ways_whole : (ms : List ℕ) → ways (members left) ms + queued desk.queue.now 0 ms ≡ ways (whole g) ms
    ways_whole ms = omega (arith, ways_alike (members left) (whole g) (filled_whole g left fresh.are) (whole_filled g left fresh.are) ms)

    covers : (n : ℕ) → Out (members left') n → (n ≡ target) ⊎ In (members left') n → n ≡ target
    covers n o (inl e) = e
    covers n o (inr x) = absurd (o x)

-- what is counted within the game's places as bits is counted within the game
pub only_counted : {g : Game} {left left' : List ℕ} {desk : Desk} {target : ℕ} (escapes : List ℕ) → Fresh g left desk → Removed left target left' → Counted g (members left) (members left) escapes → Counted g (whole g) (members left') escapes
only_counted {g} {left} {left'} {target = target} escapes fresh rem counted n x =
    counted n (removed_within left target left' rem n x) ∙ ways_alike (members left) (whole g) (filled_whole g left fresh.are) (whole_filled g left fresh.are) (moves-of g n)

-- an attractor of the target, given to w, and what is left, given to the other side with moves that stay there
module _ {s : List ℕ} {g : Game} (r : Reads s g) {w target : ℕ} (two : w < 2) (place : target < length g) (L : Set) {sides plan rank : ℕ → ℕ} (att : Attractor g (whole g) w (Only g target) (minus (whole g) L) plan rank)
    (ours : (n : ℕ) → n < length g → Out L n → sides n ≡ w) (theirs : (n : ℕ) → In L n → sides n ≡ other w) (keeps : (n : ℕ) → In L n → Stays g L n (plan n)) (outside : Out L target) (first : May g target (plan target)) where
  taken : (n : ℕ) → n < length g → sides n ≡ w → In (minus (whole g) L) n
  taken n l e = minus_in (whole g) L n (whole_in g n l) (λ x. not_other w (sides n) two e (theirs n x))

  label : (n : ℕ) → In (minus (whole g) L) n → sides n ≡ w
  label n x = ours n (whole_place g n (minus_within (whole g) L n x)) (minus_out (whole g) L n x)

  left_over : (n : ℕ) → n < length g → sides n ≡ other w → In L n
  left_over n l e = go (in_or_out L n)
    where
      go : In L n ⊎ Out L n → In L n
      go (inl x) = x
      go (inr o) = absurd (not_other w (sides n) two (ours n l o) e)

  remains : (n : ℕ) → In (whole g) n → Out (minus (whole g) L) n → In L n
  remains n u a = go (in_or_out L n)
    where
      go : In L n ⊎ Out L n → In L n
      go (inl x) = x
      go (inr o) = absurd (a (minus_in (whole g) L n u o))

  not_taken : (n : ℕ) → In L n → Out (minus (whole g) L) n
  not_taken n x y = minus_out (whole g) L n y x

  below_two : (n : ℕ) → n < length g → sides n < 2
  below_two n l = go (in_or_out L n)
    where
      go : In L n ⊎ Out L n → sides n < 2
      go (inl x) = omega (arith, theirs n x, other_below w)
      go (inr o) = omega (arith, ours n l o)

  -- a place of the other side's that is left has a move that stays
  past : (n : ℕ) → In L n → n < length g → whose g n ≡ other w → May g n (plan n) × In L (plan n)
  past n x l e =
      let t = att.way_past n (whole_in g n l) (not_taken n x) (λ d. not_other w (whose g n) two d e) in
      keeps n x t.0 t.1 (remains t.0 t.2 t.3)

  moves : (n : ℕ) → n < length g → whose g n ≡ sides n → (n ≡ target → ⊥) → May g n (plan n) × (sides (plan n) ≡ sides n)
  moves n l e d = go (cases_eq (sides n) w)
    where
      go : (sides n ≡ w) ⊎ (sides n ≡ w → ⊥) → May g n (plan n) × (sides (plan n) ≡ sides n)
      go (inl is) =
          let t = att.own n (taken n l is) (λ x. d (having_is (whole g) (λ n. n) target n x)) (e ∙ is) in
          (t.0, label (plan n) t.1 ∙ sym is)
      go (inr not) =
          let is = is_other w (sides n) two (below_two n l) not in
          let t = past n (left_over n l is) l (e ∙ is) in
          (t.0, theirs (plan n) t.1 ∙ sym is)

  on_board : (f : Play) → Plays g f → (i : ℕ) → f i < length g
  on_board f p i = from_place g (f i) (f (suc i)) (p i)

  pub attractor_reaches : Reaches g w target sides plan
  attractor_reaches = record {
    one_of_two = below_two;
    given = ours target place outside;
    may = λ n l e. may n l e (cases_eq n target);
    stays = λ n l e d. (moves n l e d).1;
    brings = λ f p b e. let t = attractor_brings att f (λ i. whole_in g (f i) (on_board f p i)) p b (taken (f 0) (on_board f p 0) e) in (t.0, having_is (whole g) (λ n. n) target (f t.0) t.2);
    keeps_away = λ f p b e i is.
        attractor_past r two att plan (λ n u a d. not_taken (plan n) (past n (remains n u a) (whole_place g n u) d).1) f (λ j. whole_in g (f j) (on_board f p j)) p b (not_taken (f 0) (left_over (f 0) (on_board f p 0) e)) i
        (subst (λ (n : ℕ). In (minus (whole g) L) n) (sym is) (minus_in (whole g) L target (whole_in g target place) outside));
    least = λ B t closed n l e. attractor_least att B (λ m x. subst (λ (k : ℕ). In B k) (sym (having_is (whole g) (λ n. n) target m x)) t) closed n (taken n l e);
  }
    where
      may : (n : ℕ) → n < length g → whose g n ≡ sides n → (n ≡ target) ⊎ (n ≡ target → ⊥) → May g n (plan n)
      may n l e (inl is) = subst (λ (m : ℕ). May g m (plan m)) (sym is) first
      may n l e (inr d) = (moves n l e d).0

-- ---- the steps of `divide`

module _ {s : List ℕ} {g : Game} (reads : Reads s g) {w target : ℕ} (two : w < 2) (place : target < length g)
    {left left₁ left₂ queue₁ queue₂ out₁ out₂ out₃ : List ℕ} {desk : Desk} {tail : ℕ} (fresh : Fresh g left desk)
    (given : Given g w target (members left) desk.out.now out₁) (removed : Removed left target left₁) (moved : Moved left₁ queue₁ 1 left₂ queue₂ tail) (kept : Frame left₁ left₂ out₁ out₂)
    {escapes₂ : List ℕ} (attracts : Attracts g (whole g) w (Only g target) left₂ queue₂ out₂ escapes₂ tail) {q : ℕ} (q-is : q ≡ other w) (handed : Handed g q (members left₂) out₂ out₃)
    (long₂ : length out₂ ≡ length out₁) (long₃ : length out₃ ≡ length out₂) where
  room : 2 * target + 1 < length desk.out.now
  room = omega (arith, fresh.sized.answers)

  inside₁ : (n : ℕ) → In (members left₁) n → n < length g
  inside₁ n x = whole_place g n (filled_whole g left fresh.are n (removed_within left target left₁ removed n x))

  gone : Out (members left₂) target
  gone x = removed_out left target left₁ removed (moved.less target x)

  -- the target's words stay as they were written
  target₂ : Unchanged out₁ out₂ target
  target₂ = kept target (λ x. absurd (removed_out left target left₁ removed x))

  target_side : side out₃ target ≡ w
  target_side = same_side out₂ out₃ target long₃ (handed.frame target gone) ∙ same_side out₁ out₂ target long₂ target₂ ∙ given_side room given

  target_move : May g target (goes out₃ target)
  target_move =
      let t = has_move reads target place in
      subst (May g target) (sym (unchanged_goes out₂ out₃ target (handed.frame target gone) ∙ unchanged_goes out₁ out₂ target target₂))
      (given_stays room given t.0 t.1 (whole_filled g left fresh.are t.0 (whole_in g t.0 (to_place reads target t.0 t.1)))).0

  ours : (n : ℕ) → n < length g → Out (members left₂) n → side out₃ n ≡ w
  ours n l o = go (cases_eq n target)
    where
      go : (n ≡ target) ⊎ (n ≡ target → ⊥) → side out₃ n ≡ w
      go (inl e) = ap (side out₃) e ∙ target_side
      go (inr d) = same_side out₂ out₃ n long₃ (handed.frame n o) ∙ attracts.labelled n (whole_in g n l) (λ x. d (having_is (whole g) (λ n. n) target n x)) o

  reaches : Reaches g w target (side out₃) (goes out₃)
  reaches = attractor_reaches reads two place (members left₂) (attractor_own (goes out₃) (λ n x d. unchanged_goes out₂ out₃ n (handed.frame n (minus_out (whole g) (members left₂) n x))) attracts.attractor)
      ours (λ n x. (handed.all n x).labelled ∙ q-is) (λ n x. (handed.all n x).stays) gone target_move

  frame : (n : ℕ) → length g ≤ n → Unchanged desk.out.now out₃ n
  frame n h =
      let a = given_same room given n (λ e. omega arith) in
      let b = kept n (λ x. absurd (omega (arith, inside₁ n x))) in
      let c = handed.frame n (λ x. omega (arith, inside₁ n (moved.less n x))) in
      (c.0 ∙ b.0 ∙ a.0, c.1 ∙ b.1 ∙ a.1)

  pub divided : ((n : ℕ) → length g ≤ n → Unchanged desk.out.now out₃ n) × Reaches g w target (side out₃) (goes out₃)
  divided = (frame, reaches)

-- ---- what each answer of `attract_to` promises

pub reached : {s : List ℕ} {lent w target : ℕ} {o o' : List ℕ} {r : Result (Unit {0}) Refusal} → 65536 + 4 * length s ≤ lent → (r ≡ Err Few → ⊥) → ReachedSays s w target o o' r → ReachPost s lent w target o o' r
reached enough d says = record { says = says; few = (λ x. absurd (omega arith), λ e. absurd (d e)); laws = attractor_laws }

-- where the words cannot be worked on
pub unaccepted : {s : List ℕ} {lent w target : ℕ} {o : List ℕ} (e : Refusal) → Accepts s lent (Err e) → ReachPost s lent w target o o (Err e)
unaccepted Few h = record { says = refl; few = (λ x. refl, λ e. h); laws = attractor_laws }
unaccepted NoGame h = reached h.0 (λ e. cc) (h.1, refl)
unaccepted NoPlace h = absurd h
unaccepted OutFull h = absurd h
