-- The lines of a text, and the carriage return at the end of one.
use Rattle.std.proofs.Common.{◌≡◌, ◌≢◌, ℕ, zero, suc, ◌+◌, ◌-◌, ◌^◌, ◌<◌, ◌≤◌, eqb, true, lit<, List, [], ◌∷◌, ◌++◌, length, get_or, drop, slice_get, Some, None, Ok, Err, Result, Option, MatchOption, unwrap_or, Bor, sym, refl, ap, ◌∙◌, ⊎_elim, ◌⊎◌, inl, inr, arith}
use Rattle.std.specs.List.{enumerate_from}
use Rattle.std.specs.Option.{option_map}
use Rattle.std.specs.Iterator.{AlwaysYields}
use Rattle.std.specs.Iterator.Adapters.{zip_first, zip_second, zip_steps}
use Rattle.std.specs.Str.Pattern.{FindsChar}
use Rattle.std.specs.Str.Iter.{split_steps, split_text, split_has_more, split_pattern}
use Rattle.std.proofs.lemmas.Iterator.{YieldsList}
use Rattle.std.proofs.lemmas.Iterator.Splits.{YieldsList-from_str_split}
use Rattle.std.proofs.lemmas.List.Splits.{length-slice_split}
use Rattle.std.proofs.lemmas.List.Sums.{count_by-le-length}
use Rattle.std.proofs.lemmas.List.{at_drop_more, at_drop_all}
use Rattle.std.proofs.lemmas.Bool.{cond-false, ne_eqb, cases_eq}
use Rattle.drawing.specs.declared.kind.Kind.{Kind}
use Rattle.drawing.specs.Reading.{lines, bared, held, Why, and_then, name_line, name_lines, word_line, word_lines}

bared_push : (xs : List ℕ) → bared (xs ++ (13 ∷ [])) ≡ xs
bared_push [] = refl
bared_push (x ∷ []) = refl
bared_push (x ∷ y ∷ xs) = ap (λ l. x ∷ l) (bared_push (y ∷ xs))

bared_same : (bs : List ℕ) → ((front : List ℕ) → bs ≢ front ++ (13 ∷ [])) → bared bs ≡ bs
bared_same [] h = refl
bared_same (b ∷ []) h = ⊎_elim (λ e. absurd (h [] (ap (λ c. c ∷ []) e))) (λ ne. cond-false _ _ _ (ne_eqb b 13 ne)) (cases_eq b 13)
bared_same (b ∷ c ∷ bs) h = ap (λ l. b ∷ l) (bared_same (c ∷ bs) (λ front e. h (b ∷ front) (ap (λ l. b ∷ l) e)))

pub stripped : (line found : Bor (List ℕ)) (r : Option (Bor (List ℕ))) → MatchOption r ((front : List ℕ) → line.now ≢ front ++ (13 ∷ [])) (λ x. line.now ≡ x.now ++ (13 ∷ [])) → found ≡ unwrap_or r line → found.now ≡ bared line.now
stripped line found None h e = ap (λ x. x.now) e ∙ sym (bared_same line.now h)
stripped line found (Some x) h e = ap (λ x. x.now) e ∙ sym (ap bared h ∙ bared_push x.now)

at_or : (ls : List (List ℕ)) (n : ℕ) (o : Option (List ℕ)) → o ≡ slice_get ls n → get_or ls n [] ≡ unwrap_or o []
at_or [] n o h = ap (λ o. unwrap_or o []) (sym h)
at_or (l ∷ ls) zero o h = ap (λ o. unwrap_or o []) (sym h)
at_or (l ∷ ls) (suc n) o h = at_or ls n o h

-- the line with an index, or an empty one
pub line_or : (ls : List (List ℕ)) (n : ℕ) (none found : Bor (List ℕ)) (r : Option (Bor (List ℕ))) → none.now ≡ [] → option_map (λ x. x.now) r ≡ slice_get ls n → found ≡ unwrap_or r none → found.now ≡ get_or ls n []
line_or ls n none found None z h e = ap (λ x. x.now) e ∙ z ∙ sym (at_or ls n None h)
line_or ls n none found (Some x) z h e = ap (λ x. x.now) e ∙ sym (at_or ls n (Some x.now) h)

module _ {S : Type 0} (from : S → ℕ) where
  -- numbers from one on, as `from..` gives them
  abbrev counts : S → Option ℕ → S → Type 0
  counts s r t = MatchOption r ((18446744073709551615 - from s ≡ 0) × (t ≡ s)) (λ x. (x ≡ from s) × (from t ≡ x + 1))

  -- a list beside the numbers from n on, which do not end before it
  beside : {T : Type 0} (others : T → Option (Bor (List ℕ)) → T → Type 0) (ls : List (List ℕ)) (n : ℕ) (s : _) → from (zip_first s) ≡ n → n + length ls < 2 ^ 64 → AlwaysYields others (λ x. x.now) (zip_second s) ls → AlwaysYields (zip_steps counts others) {B = ℕ × List ℕ} (λ p. (p.0, p.1.now)) s (enumerate_from n ls)
  beside others [] n s e few y = λ p j h. y p.1 (zip_second j) h.1
  beside {T} others (l ∷ ls) n s e few y = (
    (λ j h. goes_on h),
    λ p j h. let m = y.1 p.1 (zip_second j) h.1 in ((λ i. ((h.0.0 ∙ e) i, m.0 i)), beside others ls (n + 1) j (h.0.1 ∙ ap (λ a. a + 1) (h.0.0 ∙ e)) (omega arith) m.1),
  )
    where
      goes_on : ((u : S) × counts (zip_first s) None u) ⊎ ((u : T) × others (zip_second s) None u) → ⊥
      goes_on (inl h) = omega (arith, h.1.0, e)
      goes_on (inr h) = y.0 h.0 h.1

  -- the lines of a text with their numbers, as a loop over them goes, by the clauses of the calls of `into_iter`, `zip` and `split`
  pub numbered_lines : {s z : _} {a : S} {b : _} (text : List ℕ) → length text < 2 ^ 63 → s ≡ z → zip_first z ≡ a → zip_second z ≡ b → from a ≡ 1 → split_text b ≡ text → split_has_more b ≡ true → ◌≡◌ {A = ℕ} (split_pattern b) 10 → YieldsList {B = ℕ × List ℕ} (zip_steps counts (split_steps FindsChar (λ a b. b ≡ a))) (λ p. (p.0, p.1.now)) s (enumerate_from 1 (lines text))
  numbered_lines {s} text short it first second one is more pattern =
      let few : 1 + length (lines text) < 2 ^ 64 = omega (arith, length-slice_split (λ b. eqb b 10) text, count_by-le-length (λ b. eqb b 10) text) in
      let numbers = ap (λ y. from (zip_first y)) it ∙ ap from first ∙ one in
      let parts = ap zip_second it ∙ second in
      record { runs = beside (split_steps FindsChar (λ a b. b ≡ a)) (lines text) 1 s numbers few (YieldsList-from_str_split 10 text (lit< tt) (ap split_text parts ∙ is) (ap split_has_more parts ∙ more) (ap split_pattern parts ∙ pattern)).runs }

-- in its turn k, the loop has the line with this index, and its number
pub record Turn (ls : List (List ℕ)) (k n : ℕ) (line : List ℕ) : Type 0 where
  pub within : k < length ls
  pub number : n ≡ k + 1
  pub is : line ≡ get_or ls k []

numbered : (n : ℕ) (ls : List (List ℕ)) (k : ℕ) (p : ℕ × List ℕ) → k < length (enumerate_from n ls) → p ≡ get_or (enumerate_from n ls) k p → (k < length ls) × (p.0 ≡ n + k) × (p.1 ≡ get_or ls k [])
numbered n [] k p h e = absurd (omega arith)
numbered n (l ∷ ls) zero p h e = (omega arith, ap (λ q. q.0) e ∙ omega arith, ap (λ q. q.1) e)
numbered n (l ∷ ls) (suc k) p h e = let t = numbered (n + 1) ls k p (omega arith) e in (omega (arith, t.0), omega (arith, t.1), t.2)

pub turn_of : (ls : List (List ℕ)) (k n : ℕ) (line : List ℕ) → (k < length (enumerate_from 1 ls)) × ((n, line) ≡ get_or (enumerate_from 1 ls) k (n, line)) → Turn ls k n line
turn_of ls k n line h = let t = numbered 1 ls k (n, line) h.0 h.1 in record { within = t.0; number = omega (arith, t.1); is = t.2 }

all_numbered : (n : ℕ) (ls : List (List ℕ)) → length (enumerate_from n ls) ≡ length ls
all_numbered n [] = refl
all_numbered n (l ∷ ls) = ap suc (all_numbered (n + 1) ls)

pub all_turned : (ls : List (List ℕ)) (k : ℕ) → k ≡ length (enumerate_from 1 ls) → length ls ≤ k
all_turned ls k e = omega (arith, all_numbered 1 ls)

-- the first pass, where k lines are read
module _ (kind : Kind) (ls : List (List ℕ)) (k : ℕ) (names : List (List ℕ)) (whole : Result (List (List ℕ)) Why) (s : name_lines kind (suc k) names (drop k ls) ≡ whole) where
  module _ (i : ℕ) (line : List ℕ) (t : Turn ls k i line) where
    next_named : and_then (name_line i names (held kind line)) (λ more. name_lines kind (suc i) more (drop (k + 1) ls)) ≡ whole
    next_named =
        let same : i ≡ suc k = omega (arith, t.number) in
        (λ j. and_then (name_line (same j) names (held kind (t.is j))) (λ more. name_lines kind (suc (same j)) more (drop (k + 1) ls))) ∙ sym (at_drop_more (name_lines kind (suc k) names) ls k [] t.within) ∙ s

    pub names_more : (more : List (List ℕ)) (m : ℕ) → m ≡ k + 1 → name_line i names (held kind line) ≡ Ok more → name_lines kind (suc m) more (drop m ls) ≡ whole
    names_more more m e h =
        let same : m ≡ i = omega (arith, t.number) in
        (λ j. name_lines kind (suc (same j)) more (drop (e j) ls)) ∙ sym (ap (λ x. and_then x (λ more. name_lines kind (suc i) more (drop (k + 1) ls))) h) ∙ next_named

    pub names_err : (y : Why) → name_line i names (held kind line) ≡ Err y → whole ≡ Err y
    names_err y h = sym next_named ∙ ap (λ x. and_then x (λ more. name_lines kind (suc i) more (drop (k + 1) ls))) h

  pub names_end : length ls ≤ k → whole ≡ Ok names
  names_end h = sym s ∙ at_drop_all (name_lines kind (suc k) names) ls k h

-- the second pass, where k lines are read
module _ (kind : Kind) (ls : List (List ℕ)) (k : ℕ) (names : List (List ℕ)) (used : ℕ) (acc : List ℕ) (whole : Result (List ℕ) Why) (s : word_lines kind (suc k) names used acc (drop k ls) ≡ whole) where
  module _ (i : ℕ) (line : List ℕ) (t : Turn ls k i line) where
    next_worded : and_then (word_line i names used acc (held kind line)) (λ p. word_lines kind (suc i) names p.0 p.1 (drop (k + 1) ls)) ≡ whole
    next_worded =
        let same : i ≡ suc k = omega (arith, t.number) in
        (λ j. and_then (word_line (same j) names used acc (held kind (t.is j))) (λ p. word_lines kind (suc (same j)) names p.0 p.1 (drop (k + 1) ls))) ∙ sym (at_drop_more (word_lines kind (suc k) names used acc) ls k [] t.within) ∙ s

    pub words_more : (more : ℕ) (new : List ℕ) (m : ℕ) → m ≡ k + 1 → word_line i names used acc (held kind line) ≡ Ok (more, new) → word_lines kind (suc m) names more new (drop m ls) ≡ whole
    words_more more new m e h =
        let same : m ≡ i = omega (arith, t.number) in
        (λ j. word_lines kind (suc (same j)) names more new (drop (e j) ls)) ∙ sym (ap (λ x. and_then x (λ p. word_lines kind (suc i) names p.0 p.1 (drop (k + 1) ls))) h) ∙ next_worded

    pub words_err : (y : Why) → word_line i names used acc (held kind line) ≡ Err y → whole ≡ Err y
    words_err y h = sym next_worded ∙ ap (λ x. and_then x (λ p. word_lines kind (suc i) names p.0 p.1 (drop (k + 1) ls))) h

  pub words_end : length ls ≤ k → whole ≡ Ok acc
  words_end h = sym s ∙ at_drop_all (word_lines kind (suc k) names used acc) ls k h
