-- What was written is the game in which places that are alike are one.
use Rattle.std.proofs.Common.{◌≡◌, ℕ, ◌+◌, ◌-◌, ◌*◌, ◌<◌, ◌≤◌, Bool, ◌&&◌, T, ltb, leb, le→leb, lt→ltb, ltb→lt, ◌⊎◌, List, [], ◌∷◌, length, get_or, take, drop, sym, refl, ap, ◌∙◌, subst, inl, inr, arith}
use Rattle.std.proofs.lemmas.Bool.{cases_lt}
use Rattle.std.proofs.lemmas.List.{ext_get_or, get_or-drop, length-drop, length-append}
use mathlib.Core.Option.{Option, some}
use Rattle.endless.specs.Games.{Place, Game, Reads, ok_ps, nth, opt, whose, weight, Among, May, row}
use Rattle.endless.specs.Graph.{moves, edges}
use Rattle.endless.specs.View.{words_of}
use Rattle.endless.proofs.Nth.{nth_out}
use Rattle.endless.proofs.Places.{ok_size, to_place, from_place}
use Rattle.endless.proofs.Tests.{both, from_both}
use Rattle.quotient.specs.Alike.{Bisimulation, Ascending, Merged}
use Rattle.quotient.specs.Gathering.{Into}
use Rattle.quotient.specs.Refining.{part, Parted, Same, Sound, Stable}
use Rattle.quotient.specs.Numbering.{rank, Numbered, MadeOf}
use Rattle.quotient.specs.Writing.{Written}
use Rattle.quotient.specs.Promises.{Merges}
use Rattle.quotient.proofs.Ranks.{rank_le, rank_less, ranked}
use Rattle.quotient.proofs.Sames.{into_among, among_into}
use Rattle.quotient.proofs.Writing.{number_below}

-- words that differ only before an index
drop_same : (k : ℕ) (a b : List ℕ) → length a ≡ length b → ((i : ℕ) → k ≤ i → get_or a i 0 ≡ get_or b i 0) → drop k a ≡ drop k b
drop_same k a b long same = ext_get_or 0 (drop k a) (drop k b) (length-drop k a ∙ ap (λ (n : ℕ). n - k) long ∙ sym (length-drop k b)) (λ i h. get_or-drop k a i 0 ∙ same (k + i) (omega arith) ∙ sym (get_or-drop k b i 0))

-- how many words a game has
row_long : (g : List Place) → length (row g) ≡ 3 * length g + edges g
row_long [] = refl
row_long (p ∷ ps) = omega (arith, length-append p.moves (row ps), row_long ps)

pub words_long : (g : Game) → length (words_of g) ≡ 1 + 3 * length g + edges g
words_long g = omega (arith, row_long g)

module _ {g : Game} {parts : List ℕ} {set_words : ℕ} (parted : Parted g parts set_words) (sound : Sound g parts) (stable : Stable g parts) (numbers : List ℕ) (numbered : Numbered g parts numbers)
    {before words : List ℕ} {end : ℕ} (written : Written g parts numbers before words end) where
  abbrev pub smaller : Game
  smaller = written.places

  abbrev to : ℕ → ℕ
  to n = get_or numbers n 0

  some_place : 1 ≤ rank parts (length g)
  some_place =
      let size = ok_size _ g parted.playable in
      let low = parted.low 0 (omega (arith, size.0)) in
      let z : part parts 0 ≡ 0 = omega arith in
      omega (arith, rank_less parts 0 (length g) z (omega (arith, size.0)))

  pub smaller_reads : Reads (take end words) smaller
  smaller_reads = record {
    is = written.put ∙ ap (λ (n : ℕ). n ∷ row smaller) (sym written.many);
    fine = from_both (leb 1 (length smaller)) _ (le→leb 1 (length smaller) (omega (arith, written.many, some_place)))
        (from_both (leb (length smaller) 16384) _ (le→leb (length smaller) 16384 (omega (arith, written.many, rank_le parts (length g), (ok_size _ g parted.playable).1))) (subst (λ (k : ℕ). T (ok_ps k smaller)) (sym written.many) written.fine));
  }

  -- the place that a place became
  record Became (n : ℕ) : Type 0 where
    place : Place
    is : nth smaller (to n) ≡ some place
    made_of : MadeOf g numbers (part parts n) place
    same : Same g parts n (part parts n)

  became : (n : ℕ) → n < length g → Became n
  became n h =
      let low = parted.low n h in
      let lead = parted.lead n h in
      let t = written.made (part parts n) (omega arith) lead in
      record {
        place = t.0;
        is = ap (nth smaller) (numbered n h) ∙ t.1;
        made_of = t.2;
        same = stable n (part parts n) h (omega arith) (sym lead);
      }

  -- its moves are to the places that the moves of its first place became
  moves_are : (n : ℕ) → (b : Became n) → moves smaller (to n) ≡ b.place.moves
  moves_are n b = ap (λ (o : Option Place). opt o [] (λ p. p.moves)) b.is

  -- places of one part became one
  one_number : (n m : ℕ) → n < length g → m < length g → part parts n ≡ part parts m → to n ≡ to m
  one_number n m h l e = numbered n h ∙ ap (rank parts) e ∙ sym (numbered m l)

  inside : (n : ℕ) → n < length g → to n < length smaller
  inside n h = omega (arith, number_below parted numbers numbered n h, written.many)

  owns : (n : ℕ) → n < length g → whose smaller (to n) ≡ whose g n
  owns n h = let b = became n h in ap (λ (o : Option Place). opt o 0 (λ p. p.whose)) b.is ∙ b.made_of.owns ∙ sym b.same.owns

  weighs : (n : ℕ) → n < length g → weight smaller (to n) ≡ weight g n
  weighs n h = let b = became n h in ap (λ (o : Option Place). opt o 0 (λ p. p.weight)) b.is ∙ b.made_of.weighs ∙ sym b.same.weighs

  there : (n m : ℕ) → May g n m → May smaller (to n) (to m)
  there n m a =
      let h = from_place g n m a in
      let b = became n h in
      let l = to_place parted.playable n m a in
      let i = into_among parts (moves g (part parts n)) (part parts m) (b.same.there (part parts m) (among_into parts (moves g n) m a)) in
      let e : to i.0 ≡ to m = one_number i.0 m (to_place parted.playable (part parts n) i.0 i.1) l i.2 in
      subst (Among (to m)) (sym (moves_are n b)) (b.made_of.are (to m) (subst (Into (moves g (part parts n)) numbers) e (among_into numbers (moves g (part parts n)) i.0 i.1)))

  back : (n q : ℕ) → n < length g → May smaller (to n) q → (m : ℕ) × May g n m × (to m ≡ q)
  back n q h a =
      let b = became n h in
      let i = into_among numbers (moves g (part parts n)) q (b.made_of.came q (subst (Among q) (moves_are n b) a)) in
      let j = into_among parts (moves g n) (part parts i.0) (b.same.back (part parts i.0) (among_into parts (moves g (part parts n)) i.0 i.1)) in
      (j.0, j.1, one_number j.0 i.0 (to_place parted.playable n j.0 j.1) (to_place parted.playable (part parts n) i.0 i.1) j.2 ∙ i.2)

  first : (p : ℕ) → p < length smaller → (n : ℕ) × (n < length g) × (to n ≡ p) × ((m : ℕ) → m < n → to m < p)
  first p h =
      let t = ranked parts (length g) p (omega (arith, written.many)) in (
        t.0,
        t.1,
        numbered t.0 t.1 ∙ ap (rank parts) t.2 ∙ t.3,
        λ m l.
            let in_g : m < length g = omega (arith, t.1) in
            let low = parted.low m in_g in
            omega (arith, numbered m in_g, rank_less parts (part parts m) t.0 (parted.lead m in_g) (omega arith), t.3),
      )

  ascending : (p : ℕ) → Ascending (moves smaller p)
  ascending p = go (cases_lt p (length smaller))
    where
      go : (p < length smaller) ⊎ (length smaller ≤ p) → Ascending (moves smaller p)
      go (inl h) = let t = first p h in let b = became t.0 t.1 in subst (λ (q : ℕ). Ascending (moves smaller q)) t.2 (subst Ascending (sym (moves_are t.0 b)) b.made_of.ascending)
      go (inr h) = subst (λ (o : Option Place). Ascending (opt o [] (λ p. p.moves))) (sym (nth_out smaller p h)) tt

  coarsest : (R : ℕ → ℕ → Bool) (n m : ℕ) → Bisimulation g R → n < length g → m < length g → T (R n m) → to n ≡ to m
  coarsest R n m alike h l x = one_number n m h l (sound R n m alike h l x)

  -- places of the smaller game that are alike: so are those that became them
  module _ (R : ℕ → ℕ → Bool) (alike : Bisimulation smaller R) where
    abbrev pulled : ℕ → ℕ → Bool
    pulled n m = (ltb n (length g) && ltb m (length g)) && R (to n) (to m)

    record Pulled (n m : ℕ) : Type 0 where
      left : n < length g
      right : m < length g
      related : T (R (to n) (to m))

    parts_of : (n m : ℕ) → T (pulled n m) → Pulled n m
    parts_of n m x =
        let t = both (ltb n (length g) && ltb m (length g)) (R (to n) (to m)) x in
        let u = both (ltb n (length g)) (ltb m (length g)) t.0 in
        record { left = ltb→lt n (length g) u.0; right = ltb→lt m (length g) u.1; related = t.1 }

    is_pulled : (n m : ℕ) → n < length g → m < length g → T (R (to n) (to m)) → T (pulled n m)
    is_pulled n m h l x = from_both _ _ (from_both _ _ (lt→ltb n (length g) h) (lt→ltb m (length g) l)) x

    pulled_alike : Bisimulation g pulled
    pulled_alike = record {
      owns = λ n m x. let t = parts_of n m x in sym (owns n t.left) ∙ alike.owns (to n) (to m) t.related ∙ owns m t.right;
      weighs = λ n m x. let t = parts_of n m x in sym (weighs n t.left) ∙ alike.weighs (to n) (to m) t.related ∙ weighs m t.right;
      there = λ n m a x may.
          let t = parts_of n m x in
          let u = alike.there (to n) (to m) (to a) t.related (there n a may) in
          let v = back m u.0 t.right u.1 in
          (v.0, v.1, is_pulled a v.0 (to_place parted.playable n a may) (to_place parted.playable m v.0 v.1) (subst (λ (q : ℕ). T (R (to a) q)) (sym v.2) u.2));
      back = λ n m b x may.
          let t = parts_of n m x in
          let u = alike.back (to n) (to m) (to b) t.related (there m b may) in
          let v = back n u.0 t.left u.1 in
          (v.0, v.1, is_pulled v.0 b (to_place parted.playable n v.0 v.1) (to_place parted.playable m b may) (subst (λ (q : ℕ). T (R q (to b))) (sym v.2) u.2));
    }

    none_alike : (p q : ℕ) → p < length smaller → q < length smaller → T (R p q) → p ≡ q
    none_alike p q h l x =
        let n = first p h in
        let m = first q l in
        let r : T (R (to n.0) (to m.0)) = subst (λ (k : ℕ). T (R k (to m.0))) (sym n.2) (subst (λ (k : ℕ). T (R p k)) (sym m.2) x) in
        sym n.2 ∙ coarsest pulled n.0 m.0 pulled_alike n.1 m.1 (is_pulled n.0 m.0 n.1 m.1 r) ∙ m.2

  pub merged : Merged g smaller (λ n. get_or numbers n 0)
  merged = record {
    inside = inside;
    owns = owns;
    weighs = weighs;
    there = there;
    back = back;
    first = first;
    ascending = ascending;
    coarsest = coarsest;
    none_alike = λ R p q alike h l x. none_alike R alike p q h l x;
  }

  pub merges : {to₀ : List ℕ} → length numbers ≡ length to₀ → length words ≡ length before → ((k : ℕ) → length g ≤ k → get_or numbers k 0 ≡ get_or to₀ k 0) → Merges g to₀ before numbers words end
  merges long words_long behind = record {
    smaller = smaller;
    reads = smaller_reads;
    merged = merged;
    fewer = omega (arith, written.many, rank_le parts (length g));
    within = omega (arith, written.few, written.reading.bound);
    to_behind = drop_same (length g) _ _ long behind;
    small_behind = drop_same end _ _ words_long written.behind;
  }
