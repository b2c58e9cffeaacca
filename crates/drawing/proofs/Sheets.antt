-- What is written of a game is a drawing of it, and reads as it.
use Rattle.std.proofs.Common.{◌≡◌, ℕ, zero, suc, ◌+◌, ◌<◌, ◌≤◌, cond, leb, List, [], ◌∷◌, ◌++◌, map, length, get_or, take, drop, Some, None, Option, IfOk, Ok, Err, Result, ⊎_elim, sym, refl, ap, ◌∙◌, subst, append_assoc, append-nil, add-one, arith}
use mathlib.Core.Option.{some}
use Rattle.std.specs.List.{flat_map, range_with_len}
use Rattle.std.proofs.lemmas.List.{length-map, length-take-le, get_or-take, take_more, take_all}
use Rattle.std.proofs.lemmas.Bool.{cond-true, cond-false, lt-ltb, le-ltb, le-leb, cases_lt}
use Rattle.endless.specs.Games.{Place, Game, Reads, nth, opt, whose, weight, Among, first, later, row as words_of}
use Rattle.endless.specs.Graph.{moves, edges}
use Rattle.endless.proofs.Places.{ok_size, side_below, weight_below, to_place, has_move}
use Rattle.drawing.specs.declared.kind.Kind.TheVariants.{Endless}
use Rattle.drawing.specs.Form.{Entry, nothing, place, row}
use Rattle.drawing.specs.Reading.{lines, held, index_of, many_moves, and_then, or_unknown, add_new, name_line, name_lines, goals, word_line, word_lines, some_places, reading}
use Rattle.drawing.specs.Drawn.{with_entry, entries, Good, AllGood, Places, Drawn}
use Rattle.drawing.specs.Spelling.{IsName}
use Rattle.drawing.specs.Sheets.{named, line_of, line_text, sheet, NamesOf, Draws}
use Rattle.drawing.proofs.Indices.{index_some}
use Rattle.drawing.proofs.Apartness.{index_is}
use Rattle.drawing.proofs.Pieces.{pieces_none}
use Rattle.drawing.proofs.Printables.{Printable, split_line}
use Rattle.drawing.proofs.LinesBack.{line_printable, line_held}

-- what stands at an index, and what behind it
drop_cons : {A : Type 0} (l : List A) (i : ℕ) (d y : A) (ys : List A) → drop i l ≡ y ∷ ys → (nth l i ≡ some y) × (get_or l i d ≡ y) × (drop (suc i) l ≡ ys)
drop_cons [] zero d y ys e = absurd (let z : ◌≡◌ {A = ℕ} 0 1 = cc in omega arith)
drop_cons [] (suc i) d y ys e = absurd (let z : ◌≡◌ {A = ℕ} 0 1 = cc in omega arith)
drop_cons (x ∷ xs) zero d y ys e = (cc, cc, cc)
drop_cons (x ∷ xs) (suc i) d y ys e = drop_cons xs i d y ys e

module _ (g : Game) (names : List (List ℕ)) (words : List ℕ) (r : Reads words g) (n : NamesOf g names) where
  module _ (k : ℕ) (l : k < length g) where
    each : (m : ℕ) → Among m (moves g k) → IsName (named names m)
    each m a = n.each m (omega (arith, to_place r k m a, n.many))

    some_move : (ms : List ℕ) → (m : ℕ) × Among m ms → 0 < length ms
    some_move [] t = elim t.1 [ ]
    some_move (m ∷ ms) t = omega arith

    abbrev said : Entry
    said = record { named = named names k; side = whose g k; weighs = weight g k; goes = map (named names) (moves g k) }

    printable_at : Printable (line_of g names k)
    printable_at = line_printable names (named names k) (n.each k (omega (arith, n.many))) (whose g k) (side_below r k) (weight g k) (weight_below r k) (moves g k) (some_move (moves g k) (has_move r k l)) each

    held_at : held Endless (line_of g names k) ≡ place said
    held_at = line_held names (named names k) (n.each k (omega (arith, n.many))) (whose g k) (side_below r k) (weight g k) (weight_below r k) (moves g k) (some_move (moves g k) (has_move r k l)) each

  abbrev some_lines : ℕ → ℕ → List (List ℕ)
  some_lines a m = map (line_of g names) (range_with_len a m)

  abbrev some_said : ℕ → ℕ → List Entry
  some_said a m = map (λ k. record { named = named names k; side = whose g k; weighs = weight g k; goes = map (named names) (moves g k) }) (range_with_len a m)

  -- the last line is empty
  none_held : held Endless [] ≡ nothing
  none_held = ap (row Endless) (pieces_none [] refl)

  lines_back : (a m : ℕ) → a + m ≤ length g → lines (flat_map (line_text g names) (range_with_len a m)) ≡ some_lines a m ++ ([] ∷ [])
  unfolding line_text
  lines_back a zero h = refl
  lines_back a (suc m) h =
      let rest = flat_map (line_text g names) (range_with_len (a + 1) m) in
      ap lines (append_assoc (line_of g names a) (10 ∷ []) rest)
      ∙ split_line (line_of g names a) rest (printable_at a (omega arith))
      ∙ ap (λ ls. line_of g names a ∷ ls) (lines_back (a + 1) m (omega arith))

  all_good : (a m : ℕ) → a + m ≤ length g → AllGood Endless (some_lines a m ++ ([] ∷ []))
  all_good a zero h = (subst Good (sym none_held) tt, tt)
  all_good a (suc m) h = (subst Good (sym (held_at a (omega arith))) tt, all_good (a + 1) m (omega arith))

  entries_back : (a m : ℕ) → a + m ≤ length g → entries Endless (some_lines a m ++ ([] ∷ [])) ≡ some_said a m
  entries_back a zero h = ap (λ x. with_entry x []) none_held
  entries_back a (suc m) h =
      ap (λ x. with_entry x (entries Endless (some_lines (a + 1) m ++ ([] ∷ [])))) (held_at a (omega arith))
      ∙ ap (λ es. said a (omega arith) ∷ es) (entries_back (a + 1) m (omega arith))

  -- each entry has the name and the place of its index
  names_said : (a : ℕ) (xs : List (List ℕ)) → drop a names ≡ xs → map (λ e. e.named) (some_said a (length xs)) ≡ xs
  names_said a [] e = refl
  names_said a (x ∷ xs) e =
      let t = drop_cons names a [] x xs e in
      λ i. t.1 i ∷ names_said (a + 1) xs (ap (λ k. drop k names) (add-one a) ∙ t.2) i

  places_said : (a : ℕ) (ps : List Place) → drop a g ≡ ps → Places names (some_said a (length ps)) ps
  places_said a [] e = tt
  places_said a (p ∷ ps) e =
      let t = drop_cons g a p p ps e in (
        record {
          owns = sym (ap (λ o. opt o 0 (λ q. q.whose)) t.0);
          heavy = sym (ap (λ o. opt o 0 (λ q. q.weight)) t.0);
          moved = sym (ap (λ o. map (named names) (opt o [] (λ q. q.moves))) t.0);
        },
        places_said (a + 1) ps (ap (λ k. drop k g) (add-one a) ∙ t.2),
      )

  written_drawn : Drawn Endless (sheet g names) names words
  written_drawn =
      let ls = lines_back 0 (length g) (omega arith) in
      let es = ap (entries Endless) ls ∙ entries_back 0 (length g) (omega arith) in
      record {
        game = g;
        reads = r;
        many = n.many;
        good = subst (AllGood Endless) (sym ls) (all_good 0 (length g) (omega arith));
        named = ap (map (λ e. e.named)) (es ∙ ap (some_said 0) (sym n.many)) ∙ names_said 0 names refl;
        different = n.different;
        places = subst (λ x. Places names x g) (sym es) (places_said 0 g refl);
      }

  -- the reader finds each name where it stands
  index_named : (i : ℕ) → i < length names → index_of (named names i) names ≡ Some i
  index_named i l =
      let t = index_some (named names i) names i l refl in
      let u = index_is (named names i) names t.0 t.1 in
      t.1 ∙ ap Some (⊎_elim (λ h. absurd (n.different t.0 i h l u.1)) (λ h. ⊎_elim (λ k. absurd (n.different i t.0 k u.0 (sym u.1))) (λ k. omega (arith, h, k)) (cases_lt i t.0)) (cases_lt t.0 i))

  none_before : (a : ℕ) → a < length names → index_of (named names a) (take a names) ≡ None
  none_before a l = at (index_of (named names a) (take a names)) refl
    where
      at : (o : Option ℕ) → index_of (named names a) (take a names) ≡ o → o ≡ None
      at None e = refl
      at (Some i) e =
          let t = index_is (named names a) (take a names) i e in
          let low : i < a = omega (arith, t.0, length-take-le a names (omega arith)) in
          absurd (n.different i a low l (sym (get_or-take a names i [] low) ∙ t.1))

  names_read : (k a m : ℕ) → a + m ≤ length g → name_lines Endless k (take a names) (some_lines a m ++ ([] ∷ [])) ≡ Ok (take (a + m) names)
  names_read k a zero h =
      let same : a ≡ a + 0 = omega arith in
      ap (λ x. and_then (name_line k (take a names) x) (λ more. name_lines Endless (suc k) more [])) none_held ∙ ap (λ i. Ok (take i names)) same
  names_read k a (suc m) h =
      let same : (a + 1) + m ≡ a + suc m = omega arith in
      let many : length (take a names) ≡ a = length-take-le a names (omega (arith, n.many)) in
      let added : add_new k (take a names) (named names a) (index_of (named names a) (take a names)) ≡ Ok (take (a + 1) names) =
      ap (add_new k (take a names) (named names a)) (none_before a (omega (arith, n.many)))
      ∙ cond-true _ _ _ (lt-ltb (length (take a names)) 16384 (omega (arith, many, n.many, (ok_size words g r).1)))
      ∙ ap Ok (sym (take_more names a [] (omega (arith, n.many)))) in
      ap (λ x. and_then (name_line k (take a names) x) (λ more. name_lines Endless (suc k) more (some_lines (a + 1) m ++ ([] ∷ [])))) (held_at a (omega arith))
      ∙ ap (λ x. and_then x (λ more. name_lines Endless (suc k) more (some_lines (a + 1) m ++ ([] ∷ [])))) added
      ∙ names_read (suc k) (a + 1) m (omega arith)
      ∙ ap (λ i. Ok (take i names)) same

  goals_read : (k : ℕ) (acc ms : List ℕ) → ((m : ℕ) → Among m ms → m < length names) → goals k names acc (map (named names) ms) ≡ Ok (acc ++ ms)
  goals_read k acc [] low = ap Ok (sym (append-nil acc))
  goals_read k acc (m ∷ ms) low =
      ap (λ o. and_then (or_unknown k (named names m) o) (λ i. goals k names (acc ++ (i ∷ [])) (map (named names) ms))) (index_named m (low m first))
      ∙ goals_read k (acc ++ (m ∷ [])) ms (λ i a. low i (later a))
      ∙ ap Ok (append_assoc acc (m ∷ []) ms)

  words_read : (k a used : ℕ) (acc : List ℕ) (ps : List Place) → drop a g ≡ ps → a + length ps ≤ length g → used + edges ps ≤ 64000 → word_lines Endless k names used acc (some_lines a (length ps) ++ ([] ∷ [])) ≡ Ok (acc ++ words_of ps)
  words_read k a used acc [] e h few = ap (λ x. and_then (word_line k names used acc x) (λ p. word_lines Endless (suc k) names p.0 p.1 [])) none_held ∙ ap Ok (sym (append-nil acc))
  words_read k a used acc (p ∷ ps) e h few =
      let t = drop_cons g a p p ps e in
      let rest = some_lines (a + 1) (length ps) ++ ([] ∷ []) in
      let here : held Endless (line_of g names a) ≡ place (record { named = named names a; side = p.whose; weighs = p.weight; goes = map (named names) p.moves }) =
      held_at a (omega arith) ∙ ap (λ o. place (record { named = named names a; side = opt o 0 (λ q. q.whose); weighs = opt o 0 (λ q. q.weight); goes = map (named names) (opt o [] (λ q. q.moves)) })) t.0 in
      let low : (m : ℕ) → Among m p.moves → m < length names = λ m x. omega (arith, n.many, to_place r a m (subst (Among m) (sym (ap (λ o. opt o [] (λ q. q.moves)) t.0)) x)) in
      let many : length (map (named names) p.moves) ≡ length p.moves = length-map p.moves (named names) in
      let start = acc ++ (p.whose ∷ p.weight ∷ length p.moves ∷ []) in
      ap (λ x. and_then (word_line k names used acc x) (λ q. word_lines Endless (suc k) names q.0 q.1 rest)) here
      ∙ ap (λ l. and_then (cond (leb (used + l) 64000) (and_then {A = List ℕ} {B = ℕ × List ℕ} (goals k names (acc ++ (p.whose ∷ p.weight ∷ l ∷ [])) (map (named names) p.moves)) (λ more. Ok (used + l, more))) (Err (many_moves k))) (λ q. word_lines Endless (suc k) names q.0 q.1 rest)) many
      ∙ ap (λ x. and_then x (λ q. word_lines Endless (suc k) names q.0 q.1 rest)) (cond-true _ _ _ (le-leb (used + length p.moves) 64000 (omega arith)))
      ∙ ap (λ x. and_then (and_then {A = List ℕ} {B = ℕ × List ℕ} x (λ more. Ok (used + length p.moves, more))) (λ q. word_lines Endless (suc k) names q.0 q.1 rest)) (goals_read k start p.moves low)
      ∙ words_read (suc k) (a + 1) (used + length p.moves) (start ++ p.moves) ps (ap (λ i. drop i g) (add-one a) ∙ t.2) (omega arith) (omega arith)
      ∙ ap Ok (append_assoc start p.moves (words_of ps) ∙ append_assoc acc (p.whose ∷ p.weight ∷ length p.moves ∷ []) (p.moves ++ words_of ps))

  some_names_read : (xs : List (List ℕ)) → 0 < length xs → some_places xs ≡ Ok xs
  some_names_read [] h = absurd (omega arith)
  some_names_read (x ∷ xs) h = refl

  sheet_read : length (sheet g names) ≤ 1572864 → edges g ≤ 64000 → reading Endless (sheet g names) ≡ Ok (names, words)
  sheet_read short few =
      let all = some_lines 0 (length g) ++ ([] ∷ []) in
      let found : name_lines Endless 1 [] all ≡ Ok names = names_read 1 0 (length g) (omega arith) ∙ ap Ok (take_all (0 + length g) names (omega (arith, n.many))) in
      cond-false _ _ _ (le-ltb 1572864 (length (sheet g names)) short)
      ∙ ap (λ l. and_then (and_then (name_lines Endless 1 [] l) some_places) (λ xs. and_then (word_lines Endless 1 xs 0 (length xs ∷ []) l) (λ ws. Ok (xs, ws)))) (lines_back 0 (length g) (omega arith))
      ∙ ap (λ x. and_then (and_then x some_places) (λ xs. and_then (word_lines Endless 1 xs 0 (length xs ∷ []) all) (λ ws. Ok (xs, ws)))) found
      ∙ ap (λ x. and_then x (λ xs. and_then (word_lines Endless 1 xs 0 (length xs ∷ []) all) (λ ws. Ok (xs, ws)))) (some_names_read names (omega (arith, n.many, (ok_size words g r).0)))
      ∙ ap (λ x. and_then x (λ ws. Ok (names, ws))) (words_read 1 0 0 (length names ∷ []) g refl (omega arith) (omega (arith, few)))
      ∙ ap (λ ws. Ok (names, ws)) (ap (λ k. k ∷ words_of g) n.many ∙ sym r.is)

pub made_draws : {S E : Type 0} (f : S → List ℕ) (g : Game) (names : List (List ℕ)) (r : Result S E) → IfOk r (λ s. f s ≡ sheet g names) → NamesOf g names → IfOk r (λ s. Draws (f s) g names)
made_draws f g names (Ok s) h n = subst (λ text. Draws text g names) (sym h) (record {
  drawn = λ words reads. written_drawn g names words reads n;
  read = λ words reads short few. sheet_read g names words reads n short few;
})
made_draws f g names (Err e) h n = tt
