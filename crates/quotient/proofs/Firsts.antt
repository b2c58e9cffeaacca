-- Parts told by their first places; and all places in one part, to begin with.
use Rattle.std.proofs.Common.{◌≡◌, ℕ, ◌*◌, ◌<◌, ◌≤◌, Bool, true, false, not, ◌&&◌, eqb, ltb, lt→ltb, ◌⊎◌, List, length, get_or, sym, refl, ap, ◌∙◌, subst, inl, inr, arith}
use Rattle.std.proofs.lemmas.Bool.{cases_eq, eq-eqb, ne_eqb}
use Rattle.endless.specs.Games.{Game}
use Rattle.endless.specs.Bits.{members, count}
use Rattle.endless.specs.Graph.{moves}
use Rattle.endless.specs.View.{Playable, words_of}
use Rattle.endless.proofs.Places.{ok_size, to_place, has_move}
use Rattle.endless.proofs.CountLaws.{count_same, count_below, none_count}
use Rattle.endless.proofs.Tests.{true_T, T_true}
use Rattle.quotient.specs.Gathering.{Into, Nothing}
use Rattle.quotient.specs.Refining.{part, InParts, Parted, Leads, Sound, Stable}
use Rattle.quotient.specs.Rounds.{inside, Sized, Between, Firsts, ByFirst}
use Rattle.quotient.proofs.Sames.{into_among, among_into}

-- ---- the first places, of the places from i on

abbrev pub FirstsFrom : List ℕ → ℕ → List ℕ → Type 0
FirstsFrom parts i firsts = (n : ℕ) → i ≤ n → n < length parts → (part firsts (part parts n) ≤ n) × (part parts (part firsts (part parts n)) ≡ part parts n)

module _ {g : Game} {parts : List ℕ} {words : ℕ} (in_parts : InParts g parts words) (firsts told : List ℕ) (firsts_are : Firsts parts firsts) (told_is : ByFirst parts firsts told) (long : length told ≡ length g) where
  at : (n : ℕ) → n < length g → part told n ≡ part firsts (part parts n)
  at n h = told_is n (omega (arith, in_parts.long))

  low : (n : ℕ) → n < length g → part told n ≤ n
  low n h = let t = firsts_are n (omega (arith, in_parts.long)) in let a = at n h in omega (arith, t.0)

  -- the first place is in the same part
  first_in : (n : ℕ) → n < length g → part parts (part told n) ≡ part parts n
  first_in n h = ap (part parts) (at n h) ∙ (firsts_are n (omega (arith, in_parts.long))).1

  pub told_parted : Parted g told words
  told_parted = record {
    playable = in_parts.playable;
    long = long;
    low = low;
    lead = λ n h. let l = low n h in at (part told n) (omega arith) ∙ ap (part firsts) (first_in n h) ∙ sym (at n h);
    room = in_parts.room;
  }

  same_told : (n m : ℕ) → n < length g → m < length g → part parts n ≡ part parts m → part told n ≡ part told m
  same_told n m h l e = at n h ∙ ap (part firsts) e ∙ sym (at m l)

  same_parts : (n m : ℕ) → n < length g → m < length g → part told n ≡ part told m → part parts n ≡ part parts m
  same_parts n m h l e = sym (first_in n h) ∙ ap (part parts) e ∙ first_in m l

  pub told_sound : Sound g parts → Sound g told
  told_sound sound R n m alike ln lm x = same_told n m ln lm (sound R n m alike ln lm x)

  leads_told : (n m : ℕ) → Leads g parts n m → Leads g told n m
  leads_told n m leads q x =
      let t = into_among told (moves g n) q x in
      let u = into_among parts (moves g m) (part parts t.0) (leads (part parts t.0) (among_into parts (moves g n) t.0 t.1)) in
      let e : part told u.0 ≡ q = same_told u.0 t.0 (to_place in_parts.playable m u.0 u.1) (to_place in_parts.playable n t.0 t.1) u.2 ∙ t.2 in
      subst (Into (moves g m) told) e (among_into told (moves g m) u.0 u.1)

  pub told_stable : Stable g parts → Stable g told
  told_stable stable n m ln lm e =
      let s = stable n m ln lm (same_parts n m ln lm e) in
      record { owns = s.owns; weighs = s.weighs; one_part = e; there = leads_told n m s.there; back = leads_told m n s.back }

-- ---- to begin with

module _ {g : Game} (playable : Playable g) (parts sizes fresh out : List ℕ) (words : ℕ) (zeros : (n : ℕ) → part parts n ≡ 0) (long : length parts ≡ length g) (room : length g ≤ 32 * words)
    (size : get_or sizes 0 0 ≡ length g) (none : (q : ℕ) → (q ≡ 0 → ⊥) → get_or sizes q 0 ≡ 0) (fresh_are : (j : ℕ) → j < length g → get_or fresh j 0 ≡ j) (fresh_long : length g ≤ length fresh) (none_out : Nothing out) where
  not_out : (n : ℕ) → members out n ≡ false
  not_out n = go (members out n) refl
    where
      go : (b : Bool) → members out n ≡ b → members out n ≡ false
      go true e = absurd (none_out n (true_T _ e))
      go false e = e

  some : 1 ≤ length g
  some = (ok_size (words_of g) g playable).0

  sized : Sized g parts out sizes
  sized q = go (cases_eq q 0)
    where
      go : (q ≡ 0) ⊎ (q ≡ 0 → ⊥) → get_or sizes q 0 ≡ count (inside parts out q) (length g)
      go (inl e) =
          let all = count_same (inside parts out q) (λ j. ltb j (length g)) (length g) (λ j h.
          ap (λ (b : Bool). eqb (part parts j) q && not b) (not_out j) ∙ ap (λ (b : Bool). b && true) (eq-eqb (part parts j) q (zeros j ∙ sym e)) ∙ sym (T_true _ (lt→ltb j (length g) h))) in
          ap (λ (k : ℕ). get_or sizes k 0) e ∙ size ∙ sym (all ∙ count_below (length g) (length g) (omega arith))
      go (inr d) = none q d ∙ sym (none_count (inside parts out q) (length g) (λ j h. ap (λ (b : Bool). b && not (members out j)) (ne_eqb (part parts j) q (λ e. d (sym e ∙ zeros j)))))

  pub between_all : Between g parts sizes fresh out words 0 1 (length g)
  between_all = record {
    in_parts = record { playable = playable; long = long; below = λ n h. omega (arith, zeros n); room = room };
    sized = sized;
    none_out = none_out;
    named = record { below = λ n h. omega (arith, zeros n); place = λ q h. (0, omega (arith, some), (let z = zeros 0 in omega arith)) };
    fresh = record {
      few = fresh_long;
      places = λ j h. omega (arith, fresh_are j h);
      new = λ j h. omega arith;
      all = λ n h l. (n, h, fresh_are n h);
    };
    sound = λ R n m alike ln lm x. zeros n ∙ sym (zeros m);
    settled = λ n m ln lm e dn dm. let t = has_move playable n ln in absurd (dn (t.0, t.1, omega arith));
  }
