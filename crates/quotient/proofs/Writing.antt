-- The words of the smaller game, place by place.
use Rattle.std.proofs.Common.{◌≡◌, ℕ, zero, suc, ◌+◌, ◌<◌, ◌≤◌, T, ltb, lt→ltb, ◌⊎◌, List, [], ◌∷◌, ◌++◌, length, get_or, set, sym, refl, ap, ◌∙◌, subst, inl, inr, arith}
use Rattle.std.proofs.lemmas.Bool.{cases_eq}
use Rattle.std.proofs.lemmas.List.{get_or-set_other, take_more_set, append_assoc, length-append}
use mathlib.Core.Option.{some}
use Rattle.endless.specs.Games.{Place, Game, ok_ps, below, row, nth, Among, first, later}
use Rattle.endless.specs.Graph.{moves, Reading}
use Rattle.endless.specs.View.{words_of}
use Rattle.endless.proofs.Among.{among_at}
use Rattle.endless.proofs.Places.{Fine, ok_parts, ok_from, side_below, weight_below, has_move, to_place}
use Rattle.endless.proofs.Reading.{reading_next}
use Rattle.endless.proofs.Tests.{from_both}
use Rattle.quotient.specs.Refining.{part, Parted}
use Rattle.quotient.specs.Numbering.{rank, Numbered, MadeOf, Put}
use Rattle.quotient.specs.Writing.{Writes}
use Rattle.quotient.proofs.Ranks.{rank_none, rank_lead, rank_else, rank_less, rank_le}
use Rattle.quotient.proofs.Sames.{into_among, among_into}

-- ---- one place more behind others

row_append : (ps qs : List Place) → row (ps ++ qs) ≡ row ps ++ row qs
row_append [] qs = refl
row_append (p ∷ ps) qs = ap (λ (l : List ℕ). p.whose ∷ p.weight ∷ length p.moves ∷ l) (ap (λ (l : List ℕ). p.moves ++ l) (row_append ps qs) ∙ sym (append_assoc p.moves (row ps) (row qs)))

ok_more : (k : ℕ) (ps : List Place) (p : Place) → T (ok_ps k ps) → Fine k p → T (ok_ps k (ps ++ p ∷ []))
ok_more k [] p t f = ok_from k p [] f tt
ok_more k (q ∷ ps) p t f = let u = ok_parts k q ps t in ok_from k q (ps ++ p ∷ []) u.0 (ok_more k ps p u.1 f)

nth_front : (ps : List Place) (p : Place) (i : ℕ) → i < length ps → nth (ps ++ p ∷ []) i ≡ nth ps i
nth_front [] p i h = absurd (omega arith)
nth_front (q ∷ ps) p zero h = refl
nth_front (q ∷ ps) p (suc i) h = nth_front ps p i (omega arith)

nth_last : (ps : List Place) (p : Place) (i : ℕ) → i ≡ length ps → nth (ps ++ p ∷ []) i ≡ some p
nth_last [] p zero e = refl
nth_last [] p (suc i) e = absurd (omega arith)
nth_last (q ∷ ps) p zero e = absurd (omega arith)
nth_last (q ∷ ps) p (suc i) e = nth_last ps p i (omega arith)

below_from : (k : ℕ) (xs : List ℕ) → ((q : ℕ) → Among q xs → q < k) → T (below k xs)
below_from k [] h = tt
below_from k (x ∷ xs) h = from_both (ltb x k) (below k xs) (lt→ltb x k (h x first)) (below_from k xs (λ q a. h q (later a)))

-- ---- the numbers of the parts

module _ {g : Game} {parts : List ℕ} {words : ℕ} (parted : Parted g parts words) (numbers : List ℕ) (numbered : Numbered g parts numbers) where
  pub number_below : (n : ℕ) → n < length g → get_or numbers n 0 < rank parts (length g)
  number_below n h =
      let low = parted.low n h in
      omega (arith, numbered n h, rank_less parts (part parts n) (length g) (parted.lead n h) (omega arith))

  pub number_low : (n : ℕ) → n < length g → get_or numbers n 0 < length g
  number_low n h = omega (arith, number_below n h, rank_le parts (length g))

  fine_place : (n : ℕ) → n < length g → (p : Place) → MadeOf g numbers n p → Fine (rank parts (length g)) p
  fine_place n h p made = record {
    side = omega (arith, made.owns, side_below parted.playable n);
    light = omega (arith, made.weighs, weight_below parted.playable n);
    moving =
        let t = has_move parted.playable n h in
        let a = among_at (get_or numbers t.0 0) p.moves (made.are (get_or numbers t.0 0) (among_into numbers (moves g n) t.0 t.1)) in
        omega (arith, a.1);
    inside = below_from _ p.moves (λ q a.
        let t = into_among numbers (moves g n) q (made.came q a) in
        omega (arith, t.2, number_below t.0 (to_place parted.playable n t.0 t.1)));
  }

  pub writes_none : {before : List ℕ} {count : ℕ} → count ≡ rank parts (length g) → 0 < length before → Writes g parts numbers (rank parts (length g)) before 0 (set before 0 count) 1
  writes_none {before} {count} is room = record {
    places = [];
    many = rank_none parts;
    fine = tt;
    put = take_more_set before 0 count room ∙ ap (λ (n : ℕ). n ∷ []) is;
    made = λ n h. absurd (omega arith);
    read = 1;
    reading = record { left = refl; bound = omega arith };
    few = omega arith;
    behind = λ k h. get_or-set_other before 0 k count 0 (λ e. omega arith);
  }

  module _ {before : List ℕ} {i : ℕ} {to : List ℕ} {at : ℕ} (so_far : Writes g parts numbers (rank parts (length g)) before i to at) (here : i < length g) where
    next : Reading (words_of g) g (i + 1) (so_far.read + (3 + length (moves g i)))
    next = reading_next (words_of g) g i so_far.read here so_far.reading

    pub writes_room : at + 3 + length (moves g i) ≤ length (words_of g)
    writes_room = omega (arith, so_far.few, next.bound)

    pub writes_else : (part parts i ≡ i → ⊥) → Writes g parts numbers (rank parts (length g)) before (i + 1) to at
    writes_else d = record {
      places = so_far.places;
      many = so_far.many ∙ sym (rank_else parts i d);
      fine = so_far.fine;
      put = so_far.put;
      made = λ n h e. made n h e (cases_eq n i);
      read = so_far.read + (3 + length (moves g i));
      reading = next;
      few = omega (arith, so_far.few);
      behind = so_far.behind;
    }
      where
        made : (n : ℕ) → n < i + 1 → part parts n ≡ n → (n ≡ i) ⊎ (n ≡ i → ⊥) → (p : Place) × (nth so_far.places (rank parts n) ≡ some p) × MadeOf g numbers n p
        made n h e (inl s) = absurd (d (ap (part parts) (sym s) ∙ e ∙ s))
        made n h e (inr s) = so_far.made n (omega arith) e

    pub writes_lead : {to' : List ℕ} {end : ℕ} → part parts i ≡ i → Put g numbers i to at to' end → Writes g parts numbers (rank parts (length g)) before (i + 1) to' end
    writes_lead {to'} {end} e put = record {
      places = so_far.places ++ put.place ∷ [];
      many = omega (arith, length-append so_far.places (put.place ∷ []), so_far.many, rank_lead parts i e);
      fine = ok_more _ so_far.places put.place so_far.fine (fine_place i here put.place put.made_of);
      put = put.put ∙ ap (λ (l : List ℕ). l ++ row (put.place ∷ [])) so_far.put ∙ ap (λ (l : List ℕ). rank parts (length g) ∷ l) (sym (row_append so_far.places (put.place ∷ [])));
      made = λ n h f. made n h f (cases_eq n i);
      read = so_far.read + (3 + length (moves g i));
      reading = next;
      few = omega (arith, so_far.few, put.few);
      behind = λ k h. behind k h;
    }
      where
        made : (n : ℕ) → n < i + 1 → part parts n ≡ n → (n ≡ i) ⊎ (n ≡ i → ⊥) → (p : Place) × (nth (so_far.places ++ put.place ∷ []) (rank parts n) ≡ some p) × MadeOf g numbers n p
        made n h f (inl s) = subst (λ (k : ℕ). (p : Place) × (nth (so_far.places ++ put.place ∷ []) (rank parts k) ≡ some p) × MadeOf g numbers k p) (sym s) (put.place, nth_last so_far.places put.place (rank parts i) (sym so_far.many), put.made_of)
        made n h f (inr s) =
            let t = so_far.made n (omega arith) f in
            (t.0, nth_front so_far.places put.place (rank parts n) (omega (arith, so_far.many, rank_less parts n i f (omega arith))) ∙ t.1, t.2)

        behind : (k : ℕ) → end ≤ k → get_or to' k 0 ≡ get_or before k 0
        behind k h = put.behind k h ∙ so_far.behind k (omega (arith, put.grows))
