-- A line that is written is read back.
use Rattle.std.proofs.Common.{◌≡◌, ℕ, suc, ◌+◌, ◌<◌, true, false, List, [], ◌∷◌, ◌++◌, map, length, drop, Ok, refl, ap, ◌∙◌, arith}
use Rattle.std.specs.Fmt.{decimal}
use Rattle.std.specs.List.{flat_map, prefix_len}
use Rattle.endless.specs.Games.{Among, first, later}
use Rattle.drawing.specs.declared.kind.Kind.TheVariants.{Endless}
use Rattle.drawing.specs.declared.refusal.Fault.TheVariants.{Side, Weight}
use Rattle.drawing.specs.Form.{blank, apart, word, colon, next_dark, next_piece, pieces, Entry, place, or_fault, names_of, with_name, some_names, row_moves, row_weight, row_side, row}
use Rattle.drawing.specs.Reading.{held}
use Rattle.drawing.specs.Spelling.{spelling, IsName}
use Rattle.drawing.specs.Sheets.{named, move_text, before_moves}
use Rattle.drawing.proofs.Pieces.{pieces_next, pieces_none}
use Rattle.drawing.proofs.RoundTrip.{quotes, name_back}
use Rattle.drawing.proofs.Numbers.{figures, number_back, side_back, weighs_back}
use Rattle.drawing.proofs.Printables.{Printable, printable_append, printable_name, printable_figures, bared_printable}

blank_back : (bs : List ℕ) → next_piece (32 ∷ bs) ≡ next_piece bs
blank_back bs = let one : 1 + prefix_len blank bs ≡ suc (prefix_len blank bs) = omega arith in ap (λ k. next_dark (drop k (32 ∷ bs))) one

-- the moves of a place
module _ (names : List (List ℕ)) where
  moves_apart : (ms : List ℕ) → apart (flat_map (move_text names) ms) ≡ true
  moves_apart [] = refl
  moves_apart (m ∷ ms) = refl

  printable_moves : (ms : List ℕ) → ((m : ℕ) → Among m ms → IsName (named names m)) → Printable (flat_map (move_text names) ms)
  printable_moves [] each = tt
  printable_moves (m ∷ ms) each = (omega arith, printable_append (spelling (named names m)) (flat_map (move_text names) ms) (printable_name (named names m) (each m first)) (printable_moves ms (λ k a. each k (later a))))

  names_back : (ms : List ℕ) → ((m : ℕ) → Among m ms → IsName (named names m)) → names_of (pieces (flat_map (move_text names) ms)) ≡ Ok (map (named names) ms)
  names_back [] each = ap names_of (pieces_none [] refl)
  names_back (m ∷ ms) each =
      let x = named names m in
      let rest = flat_map (move_text names) ms in
      ap names_of (pieces_next (32 ∷ (spelling x ++ rest)) (word (quotes x) x) rest (blank_back (spelling x ++ rest) ∙ name_back x rest (each m first) (moves_apart ms)))
      ∙ ap (with_name x) (names_back ms (λ k a. each k (later a)))

-- a line
module _ (names : List (List ℕ)) (x : List ℕ) (is : IsName x) (s : ℕ) (sided : s < 2) (w : ℕ) (light : w < 256) (ms : List ℕ) (some : 0 < length ms) (each : (m : ℕ) → Among m ms → IsName (named names m)) where
  abbrev goes : List ℕ
  goes = flat_map (move_text names) ms

  pub line_printable : Printable (before_moves x s w goes)
  line_printable =
      printable_append (spelling x) _ (printable_name x is) (
        omega arith,
        printable_append (decimal s) _ (printable_figures (decimal s) (figures s (omega arith)))
            (omega arith, printable_append (decimal w) _ (printable_figures (decimal w) (figures w light)) (omega arith, printable_moves names ms each)),
      )

  line_pieces : pieces (before_moves x s w goes) ≡ word (quotes x) x ∷ word false (decimal s) ∷ word false (decimal w) ∷ colon ∷ pieces goes
  line_pieces =
      let behind_weight = 58 ∷ goes in
      let behind_side = 32 ∷ (decimal w ++ behind_weight) in
      let behind_name = 32 ∷ (decimal s ++ behind_side) in
      pieces_next (before_moves x s w goes) (word (quotes x) x) behind_name (name_back x behind_name is refl)
      ∙ ap (λ ps. word (quotes x) x ∷ ps)
      (pieces_next behind_name (word false (decimal s)) behind_side (blank_back (decimal s ++ behind_side) ∙ number_back s behind_side (omega arith) refl)
      ∙ ap (λ ps. word false (decimal s) ∷ ps)
      (pieces_next behind_side (word false (decimal w)) behind_weight (blank_back (decimal w ++ behind_weight) ∙ number_back w behind_weight light refl)
      ∙ ap (λ ps. word false (decimal w) ∷ ps) (pieces_next behind_weight colon goes refl)))

  abbrev entry : Entry
  entry = record { named = x; side = s; weighs = w; goes = map (named names) ms }

  moved : (ms : List ℕ) → 0 < length ms → row_moves x s w (some_names Endless (Ok (map (named names) ms))) ≡ place (record { named = x; side = s; weighs = w; goes = map (named names) ms })
  moved [] h = absurd (omega arith)
  moved (m ∷ ms) h = refl

  pub line_held : held Endless (before_moves x s w goes) ≡ place entry
  line_held =
      ap (λ l. row Endless (pieces l)) (bared_printable (before_moves x s w goes) line_printable)
      ∙ ap (row Endless) line_pieces
      ∙ ap (λ o. row_side Endless x (or_fault o Side (word false (decimal w) ∷ colon ∷ pieces goes))) (side_back s sided)
      ∙ ap (λ o. row_weight Endless x s (or_fault o Weight (colon ∷ pieces goes))) (weighs_back w light)
      ∙ ap (λ r. row_moves x s w (some_names Endless r)) (names_back names ms each)
      ∙ moved ms some
