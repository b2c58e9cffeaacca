-- What is wrong with a text that is refused, line by line.
use Rattle.std.proofs.Common.{◌≡◌, ℕ, suc, ◌+◌, Bool, true, false, cond, ltb, leb, List, [], ◌∷◌, ◌++◌, map, length, IfErr, Some, None, Ok, Err, Option, Result, sym, refl, ap, ◌∙◌, subst, append_assoc, arith}
use Rattle.std.proofs.lemmas.List.{length_push, length-map}
use Rattle.std.proofs.lemmas.Bool.{ltb-true, ltb-false, leb-false}
use Rattle.drawing.specs.declared.kind.Kind.{Kind}
use Rattle.drawing.specs.declared.refusal.Refusal.{Refusal}
use Rattle.drawing.specs.declared.refusal.Refusal.TheVariants.{Fault, Twice, Unknown, TooManyPlaces, TooManyMoves, TooLong, NoPlaces, Memory}
use Rattle.drawing.specs.Form.{Entry, Line, nothing, place, bad}
use Rattle.drawing.specs.Reading.{lines, held, Why, faulty, twice, unknown, many_places, many_moves, long, no_places, and_then, index_of, or_unknown, add_new, name_line, name_lines, goals, word_line, word_lines, some_places, reading}
use Rattle.drawing.specs.Drawn.{with_entry, entries}
use Rattle.drawing.specs.declared.Drawing.{Drawing}
use Rattle.drawing.specs.Answer.{Answers}
use Rattle.drawing.specs.Passes.{Refuses}
use Rattle.drawing.specs.Wrong.{LineAt, names_on, all_moves, Among, WrongLine, Wrong, Says}
use Rattle.drawing.proofs.Apartness.{index_is, line_follow, lines_follow}
use Rattle.drawing.proofs.Indices.{index_some}

err_same : {A : Type 0} {x y : Why} → ◌≡◌ {A = Result A Why} (Err x) (Err y) → x ≡ y
err_same e = cc

no_err : {A : Type 0} {x : A} {y : Why} → ◌≡◌ {A = Result A Why} (Ok x) (Err y) → ⊥
no_err e = let z : ◌≡◌ {A = ℕ} 0 1 = cc in omega arith

here : (kind : Kind) (before after : List (List ℕ)) (l : List ℕ) (n : ℕ) (x : Line) → n ≡ length before + 1 → held kind l ≡ x → LineAt kind (before ++ (l ∷ after)) n before x
here kind before after l n x e h = record { line = l; after = after; split = refl; number = e; holds = h }

with_append : (l : Line) (es fs : List Entry) → with_entry l es ++ fs ≡ with_entry l (es ++ fs)
with_append nothing es fs = refl
with_append (bad f) es fs = refl
with_append (place e) es fs = refl

entries_append : (kind : Kind) (xs ys : List (List ℕ)) → entries kind (xs ++ ys) ≡ entries kind xs ++ entries kind ys
entries_append kind [] ys = refl
entries_append kind (x ∷ xs) ys = ap (with_entry (held kind x)) (entries_append kind xs ys) ∙ sym (with_append (held kind x) (entries kind xs) (entries kind ys))

map_names : (es fs : List Entry) → map (λ e. e.named) (es ++ fs) ≡ map (λ e. e.named) es ++ map (λ e. e.named) fs
map_names [] fs = refl
map_names (e ∷ es) fs = ap (λ l. e.named ∷ l) (map_names es fs)

moves_append : (es fs : List Entry) → all_moves (es ++ fs) ≡ all_moves es + all_moves fs
moves_append [] fs = omega arith
moves_append (e ∷ es) fs = omega (arith, moves_append es fs)

push_before : (before after : List (List ℕ)) (l : List ℕ) → (before ++ (l ∷ [])) ++ after ≡ before ++ (l ∷ after)
push_before before after l = append_assoc before (l ∷ []) after

next_number : (before : List (List ℕ)) (l : List ℕ) (n : ℕ) → n ≡ length before + 1 → suc n ≡ length (before ++ (l ∷ [])) + 1
next_number before l n e = omega (arith, e, length_push before l)

-- the first pass
module _ (kind : Kind) (before after : List (List ℕ)) (l : List ℕ) (n : ℕ) (number : n ≡ length before + 1) (names : List (List ℕ)) (are : names ≡ names_on kind before) where
  new_wrong : (e : Entry) → held kind l ≡ place e → (o : Option ℕ) → index_of e.named names ≡ o → (w : Why) → add_new n names e.named o ≡ Err w → WrongLine kind (before ++ (l ∷ after)) w
  new_wrong e h (Some i) q w r =
      let t = index_is e.named names i q in
      subst (WrongLine kind (before ++ (l ∷ after))) (err_same r) (before, e, here kind before after l n (place e) number h, refl, subst (λ xs. Among e.named xs) are (i, t.0, t.1))
  new_wrong e h None q w r = at (ltb (length names) 16384) refl r
    where
      at : (t : Bool) → ltb (length names) 16384 ≡ t → cond t (Ok (names ++ (e.named ∷ []))) (Err (many_places n)) ≡ Err w → WrongLine kind (before ++ (l ∷ after)) w
      at true f s = absurd (no_err s)
      at false f s = subst (WrongLine kind (before ++ (l ∷ after))) (err_same s) (before, e, here kind before after l n (place e) number h, omega (arith, ltb-false (length names) 16384 f, ap length are, length-map (entries kind before) (λ e. e.named)))

  line_wrong : (x : Line) → held kind l ≡ x → (w : Why) → name_line n names x ≡ Err w → WrongLine kind (before ++ (l ∷ after)) w
  line_wrong nothing h w r = absurd (no_err r)
  line_wrong (bad f) h w r = subst (WrongLine kind (before ++ (l ∷ after))) (err_same r) (before, here kind before after l n (bad f) number h)
  line_wrong (place e) h w r = new_wrong e h (index_of e.named names) refl w r

pub names_wrong : (kind : Kind) (ls before : List (List ℕ)) (n : ℕ) → n ≡ length before + 1 → (names : List (List ℕ)) → names ≡ names_on kind before → (w : Why) → name_lines kind n names ls ≡ Err w → WrongLine kind (before ++ ls) w
names_wrong kind [] before n number names are w h = absurd (no_err h)
names_wrong kind (l ∷ ls) before n number names are w h = at (λ more a q. names_wrong kind ls (before ++ (l ∷ [])) (suc n) (next_number before l n number) more a w q) (name_line n names (held kind l)) refl h
  where
    at : ((more : List (List ℕ)) → more ≡ names_on kind (before ++ (l ∷ [])) → name_lines kind (suc n) more ls ≡ Err w → WrongLine kind ((before ++ (l ∷ [])) ++ ls) w) → (x : Result (List (List ℕ)) Why) → name_line n names (held kind l) ≡ x → and_then x (λ more. name_lines kind (suc n) more ls) ≡ Err w → WrongLine kind (before ++ (l ∷ ls)) w
    at rec (Err y) q r = subst (WrongLine kind (before ++ (l ∷ ls))) (err_same r) (line_wrong kind before ls l n number names are (held kind l) refl y q)
    at rec (Ok more) q r =
        let longer = (line_follow n names more (held kind l) q).are ∙ ap (λ xs. xs ++ map (λ e. e.named) (with_entry (held kind l) [])) are ∙ sym (ap (map (λ e. e.named)) (entries_append kind before (l ∷ [])) ∙ map_names (entries kind before) (with_entry (held kind l) [])) in
        subst (λ xs. WrongLine kind xs w) (push_before before ls l) (rec more longer r)

-- the second pass
goals_wrong : (n : ℕ) (names : List (List ℕ)) (ms : List (List ℕ)) (acc : List ℕ) (w : Why) → goals n names acc ms ≡ Err w → (x : List ℕ) × (w ≡ unknown n x) × Among x ms × (index_of x names ≡ None)
goals_wrong n names [] acc w h = absurd (no_err h)
goals_wrong n names (x ∷ xs) acc w h = at (λ i q. goals_wrong n names xs (acc ++ (i ∷ [])) w q) (index_of x names) refl h
  where
    at : ((i : ℕ) → goals n names (acc ++ (i ∷ [])) xs ≡ Err w → (y : List ℕ) × (w ≡ unknown n y) × Among y xs × (index_of y names ≡ None)) → (o : Option ℕ) → index_of x names ≡ o → and_then (or_unknown n x o) (λ i. goals n names (acc ++ (i ∷ [])) xs) ≡ Err w → (y : List ℕ) × (w ≡ unknown n y) × Among y (x ∷ xs) × (index_of y names ≡ None)
    at rec None q r = (x, sym (err_same r), (0, omega arith, refl), q)
    at rec (Some i) q r = let t = rec i r in (t.0, t.1, (suc t.2.0, omega (arith, t.2.1), t.2.2), t.3)

not_among : (x : List ℕ) (names : List (List ℕ)) → index_of x names ≡ None → Among x names → ⊥
not_among x names e a =
    let t = index_some x names a.0 a.1 a.2 in
    let both : ◌≡◌ {A = Option ℕ} None (Some t.0) = sym e ∙ t.1 in
    let z : ◌≡◌ {A = ℕ} 0 1 = cc in
    omega arith

module _ (kind : Kind) (before after : List (List ℕ)) (l : List ℕ) (n : ℕ) (number : n ≡ length before + 1) (names : List (List ℕ)) (all : names ≡ names_on kind (before ++ (l ∷ after))) (used : ℕ) (sum : used ≡ all_moves (entries kind before)) (acc : List ℕ) where
  word_wrong : (x : Line) → held kind l ≡ x → (w : Why) → word_line n names used acc x ≡ Err w → WrongLine kind (before ++ (l ∷ after)) w
  word_wrong nothing h w r = absurd (no_err r)
  word_wrong (bad f) h w r = subst (WrongLine kind (before ++ (l ∷ after))) (err_same r) (before, here kind before after l n (bad f) number h)
  word_wrong (place e) h w r = at (leb (used + length e.goes) 64000) refl r
    where
      found : (y : Result (List ℕ) Why) → goals n names (acc ++ (e.side ∷ e.weighs ∷ length e.goes ∷ [])) e.goes ≡ y → and_then {A = List ℕ} {B = ℕ × List ℕ} y (λ more. Ok (used + length e.goes, more)) ≡ Err w → WrongLine kind (before ++ (l ∷ after)) w
      found (Ok more) q s = absurd (no_err s)
      found (Err y) q s =
          let t = goals_wrong n names e.goes (acc ++ (e.side ∷ e.weighs ∷ length e.goes ∷ [])) y q in
          subst (WrongLine kind (before ++ (l ∷ after))) (sym t.1 ∙ err_same s) (before, e, here kind before after l n (place e) number h, t.2, λ a. not_among t.0 names t.3 (subst (λ xs. Among t.0 xs) (sym all) a))

      at : (t : Bool) → leb (used + length e.goes) 64000 ≡ t → cond t (and_then {A = List ℕ} {B = ℕ × List ℕ} (goals n names (acc ++ (e.side ∷ e.weighs ∷ length e.goes ∷ [])) e.goes) (λ more. Ok (used + length e.goes, more))) (Err (many_moves n)) ≡ Err w → WrongLine kind (before ++ (l ∷ after)) w
      at true q s = found (goals n names (acc ++ (e.side ∷ e.weighs ∷ length e.goes ∷ [])) e.goes) refl s
      at false q s = subst (WrongLine kind (before ++ (l ∷ after))) (err_same s) (before, e, here kind before after l n (place e) number h, omega (arith, leb-false (used + length e.goes) 64000 q, sum))

word_used : (n : ℕ) (names : List (List ℕ)) (used : ℕ) (acc : List ℕ) (x : Line) (p : ℕ × List ℕ) → word_line n names used acc x ≡ Ok p → p.0 ≡ used + all_moves (with_entry x [])
word_used n names used acc nothing p h = let q : (used, acc) ≡ p = cc in sym (ap (λ t. t.0) q) ∙ omega arith
word_used n names used acc (bad f) p h = absurd (no_err (sym h))
word_used n names used acc (place e) p h = at (leb (used + length e.goes) 64000) h
  where
    found : (y : Result (List ℕ) Why) → and_then {A = List ℕ} {B = ℕ × List ℕ} y (λ more. Ok (used + length e.goes, more)) ≡ Ok p → p.0 ≡ used + (length e.goes + 0)
    found (Ok more) s = let q : ◌≡◌ {A = ℕ × List ℕ} (used + length e.goes, more) p = cc in sym (ap (λ t. t.0) q) ∙ omega arith
    found (Err y) s = absurd (no_err (sym s))

    at : (t : Bool) → cond t (and_then {A = List ℕ} {B = ℕ × List ℕ} (goals n names (acc ++ (e.side ∷ e.weighs ∷ length e.goes ∷ [])) e.goes) (λ more. Ok (used + length e.goes, more))) (Err (many_moves n)) ≡ Ok p → p.0 ≡ used + (length e.goes + 0)
    at true s = found (goals n names (acc ++ (e.side ∷ e.weighs ∷ length e.goes ∷ [])) e.goes) s
    at false s = absurd (no_err (sym s))

pub words_wrong : (kind : Kind) (ls before : List (List ℕ)) (n : ℕ) → n ≡ length before + 1 → (names : List (List ℕ)) → names ≡ names_on kind (before ++ ls) → (used : ℕ) → used ≡ all_moves (entries kind before) → (acc : List ℕ) (w : Why) → word_lines kind n names used acc ls ≡ Err w → WrongLine kind (before ++ ls) w
words_wrong kind [] before n number names all used sum acc w h = absurd (no_err h)
words_wrong kind (l ∷ ls) before n number names all used sum acc w h =
    at (λ p s q. words_wrong kind ls (before ++ (l ∷ [])) (suc n) (next_number before l n number) names (all ∙ ap (names_on kind) (sym (push_before before ls l))) p.0 s p.1 w q) (word_line n names used acc (held kind l)) refl h
  where
    at : ((p : ℕ × List ℕ) → p.0 ≡ all_moves (entries kind (before ++ (l ∷ []))) → word_lines kind (suc n) names p.0 p.1 ls ≡ Err w → WrongLine kind ((before ++ (l ∷ [])) ++ ls) w) → (x : Result (ℕ × List ℕ) Why) → word_line n names used acc (held kind l) ≡ x → and_then x (λ p. word_lines kind (suc n) names p.0 p.1 ls) ≡ Err w → WrongLine kind (before ++ (l ∷ ls)) w
    at rec (Err y) q r = subst (WrongLine kind (before ++ (l ∷ ls))) (err_same r) (word_wrong kind before ls l n number names all used sum acc (held kind l) refl y q)
    at rec (Ok p) q r =
        let more : p.0 ≡ all_moves (entries kind (before ++ (l ∷ []))) = word_used n names used acc (held kind l) p q ∙ ap (λ m. m + all_moves (with_entry (held kind l) [])) sum ∙ sym (ap all_moves (entries_append kind before (l ∷ [])) ∙ moves_append (entries kind before) (with_entry (held kind l) [])) in
        subst (λ xs. WrongLine kind xs w) (push_before before ls l) (rec p more r)

-- the whole text
in_line : (kind : Kind) (text : List ℕ) (w : Why) → WrongLine kind (lines text) w → Wrong kind text w
in_line kind text (faulty n f) h = h
in_line kind text (twice n x) h = h
in_line kind text (unknown n x) h = h
in_line kind text (many_places n) h = h
in_line kind text (many_moves n) h = h
in_line kind text long h = absurd h
in_line kind text no_places h = h

pub wrong : (kind : Kind) (text : List ℕ) (w : Why) → reading kind text ≡ Err w → Wrong kind text w
wrong kind text w h = at (ltb 1572864 (length text)) refl h
  where
    second : (names : List (List ℕ)) → names ≡ names_on kind (lines text) → (y : Result (List ℕ) Why) → word_lines kind 1 names 0 (length names ∷ []) (lines text) ≡ y → and_then {A = List ℕ} {B = List (List ℕ) × List ℕ} y (λ ws. Ok (names, ws)) ≡ Err w → Wrong kind text w
    second names are (Ok ws) q r = absurd (no_err r)
    second names are (Err y) q r = in_line kind text w (subst (WrongLine kind (lines text)) (err_same r) (words_wrong kind (lines text) [] 1 refl names are 0 refl (length names ∷ []) y q))

    some : (names : List (List ℕ)) → names ≡ names_on kind (lines text) → and_then {A = List (List ℕ)} {B = List (List ℕ) × List ℕ} (some_places names) (λ ns. and_then (word_lines kind 1 ns 0 (length ns ∷ []) (lines text)) (λ ws. Ok (ns, ws))) ≡ Err w → Wrong kind text w
    some [] are r = in_line kind text w (subst (WrongLine kind (lines text)) (err_same r) (no_names (entries kind (lines text)) are))
      where
        no_names : (es : List Entry) → [] ≡ map (λ e. e.named) es → es ≡ []
        no_names [] q = refl
        no_names (e ∷ es) q = absurd (let z : 0 ≡ suc (length (map (λ e. e.named) es)) = ap length q in omega arith)
    some (x ∷ xs) are r = second (x ∷ xs) are (word_lines kind 1 (x ∷ xs) 0 (length (x ∷ xs) ∷ []) (lines text)) refl r

    first : (y : Result (List (List ℕ)) Why) → name_lines kind 1 [] (lines text) ≡ y → and_then {A = List (List ℕ)} {B = List (List ℕ) × List ℕ} (and_then y some_places) (λ ns. and_then (word_lines kind 1 ns 0 (length ns ∷ []) (lines text)) (λ ws. Ok (ns, ws))) ≡ Err w → Wrong kind text w
    first (Err y) q r = in_line kind text w (subst (WrongLine kind (lines text)) (err_same r) (names_wrong kind (lines text) [] 1 refl [] refl y q))
    first (Ok names) q r = some names (lines_follow kind (lines text) 1 [] names q).are r

    at : (t : Bool) → ltb 1572864 (length text) ≡ t → cond t (Err long) (and_then {A = List (List ℕ)} {B = List (List ℕ) × List ℕ} (and_then (name_lines kind 1 [] (lines text)) some_places) (λ ns. and_then (word_lines kind 1 ns 0 (length ns ∷ []) (lines text)) (λ ws. Ok (ns, ws)))) ≡ Err w → Wrong kind text w
    at true q r = subst (Wrong kind text) (err_same r) (ltb-true 1572864 (length text) q)
    at false q r = first (name_lines kind 1 [] (lines text)) refl r

pub says : (kind : Kind) (text : List ℕ) (e : Refusal) → Refuses (reading kind text) e → Says kind text e
says kind text (Fault n f) h = wrong kind text _ h
says kind text (Twice n s) h = wrong kind text _ h
says kind text (Unknown n s) h = wrong kind text _ h
says kind text (TooManyPlaces n) h = wrong kind text _ h
says kind text (TooManyMoves n) h = wrong kind text _ h
says kind text TooLong h = wrong kind text long h
says kind text NoPlaces h = wrong kind text no_places h
says kind text Memory h = tt

pub answered : (kind : Kind) (text : List ℕ) (r : Result Drawing Refusal) → Answers kind text r → IfErr r (λ e. Says kind text e)
answered kind text (Ok d) h = tt
answered kind text (Err e) h = says kind text e h
