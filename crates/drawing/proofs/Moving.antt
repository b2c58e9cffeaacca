-- The moves of a line are written one after the other.
use Rattle.std.proofs.Common.{◌≡◌, ℕ, ◌+◌, ◌≤◌, Bool, List, [], ◌∷◌, ◌++◌, length, Ok, Err, Result, sym, refl, ap, ◌∙◌, append_assoc, arith}
use Rattle.drawing.specs.declared.refusal.Fault.{Fault}
use Rattle.std.proofs.lemmas.Bool.{cond-true, le-leb}
use Rattle.drawing.specs.Form.{Piece, word, with_name, names_of, Entry, Line, place}
use Rattle.drawing.specs.Reading.{Why, and_then, index_of, or_unknown, goals, word_line}

-- what is left to write of the moves
pub record LeftOver (n : ℕ) (names : List (List ℕ)) (old : List ℕ) (ms : List (List ℕ)) (new : List ℕ) (ps : List Piece) : Type 0 where
  pub left : List (List ℕ)
  pub names_left : names_of ps ≡ Ok left
  pub same : goals n names new left ≡ goals n names old ms

pub first_name : (q : Bool) (w : List ℕ) (ps : List Piece) (ms : List (List ℕ)) → names_of (word q w ∷ ps) ≡ Ok ms → (left : List (List ℕ)) × (names_of ps ≡ Ok left) × (ms ≡ w ∷ left)
first_name q w ps ms h = at (names_of ps) refl h
  where
    at : (x : Result (List (List ℕ)) Fault) → names_of ps ≡ x → with_name w x ≡ Ok ms → (left : List (List ℕ)) × (names_of ps ≡ Ok left) × (ms ≡ w ∷ left)
    at (Ok left) e h = (left, e, cc)
    at (Err f) e h = absurd (let z : ◌≡◌ {A = ℕ} 0 1 = cc in omega arith)

module _ (n : ℕ) (names : List (List ℕ)) (old : List ℕ) (ms : List (List ℕ)) (new : List ℕ) (ps : List Piece) (s : LeftOver n names old ms new ps) where
  pub left_more : (q : Bool) (w : List ℕ) (rest : List Piece) → ps ≡ word q w ∷ rest → (i : ℕ) → or_unknown n w (index_of w names) ≡ Ok i → (longer : List ℕ) → longer ≡ new ++ (i ∷ []) → LeftOver n names old ms longer rest
  left_more q w rest e i f longer p =
      let t = first_name q w rest s.left (ap names_of (sym e) ∙ s.names_left) in
      record {
        left = t.0;
        names_left = t.1;
        same = ap (λ l. goals n names l t.0) p ∙ sym (ap (λ l. goals n names new l) t.2 ∙ ap (λ x. and_then x (λ i. goals n names (new ++ (i ∷ [])) t.0)) f) ∙ s.same;
      }

  pub left_err : (q : Bool) (w : List ℕ) (rest : List Piece) → ps ≡ word q w ∷ rest → (y : Why) → or_unknown n w (index_of w names) ≡ Err y → goals n names old ms ≡ Err y
  left_err q w rest e y f =
      let t = first_name q w rest s.left (ap names_of (sym e) ∙ s.names_left) in
      sym s.same ∙ ap (λ l. goals n names new l) t.2 ∙ ap (λ x. and_then x (λ i. goals n names (new ++ (i ∷ [])) t.0)) f

  pub left_none : ps ≡ [] → goals n names old ms ≡ Ok new
  left_none e =
      let none : s.left ≡ [] = cc (ap names_of (sym e) ∙ s.names_left) in
      sym s.same ∙ ap (λ l. goals n names new l) none

  pub left_bad : (e : Fault) → names_of ps ≡ Err e → ⊥
  left_bad e h = let z : ◌≡◌ {A = ℕ} 0 1 = cc s.names_left in omega arith

pub pushed_three : (old one two three : List ℕ) (s w m k : ℕ) → one ≡ old ++ (s ∷ []) → two ≡ one ++ (w ∷ []) → three ≡ two ++ (m ∷ []) → m ≡ k → three ≡ old ++ (s ∷ w ∷ k ∷ [])
pushed_three old one two three s w m k a b c e =
    c ∙ ap (λ l. l ++ (m ∷ [])) (b ∙ ap (λ l. l ++ (w ∷ [])) a) ∙ append_assoc (old ++ (s ∷ [])) (w ∷ []) (m ∷ []) ∙ append_assoc old (s ∷ []) (w ∷ m ∷ []) ∙ ap (λ i. old ++ (s ∷ w ∷ i ∷ [])) e

-- the words of one line
module _ (n : ℕ) (names : List (List ℕ)) (used : ℕ) (old : List ℕ) (line : Line) (e : Entry) (holds : line ≡ place e) (few : used + length e.goes ≤ 64000) (acc : List ℕ) (is : acc ≡ old ++ (e.side ∷ e.weighs ∷ length e.goes ∷ [])) where
  word_is : word_line n names used old line ≡ and_then (goals n names acc e.goes) (λ more. Ok (used + length e.goes, more))
  word_is = ap (word_line n names used old) holds ∙ cond-true _ _ _ (le-leb _ _ few) ∙ sym (ap (λ l. and_then (goals n names l e.goes) (λ more. Ok (used + length e.goes, more))) is)

  pub worded_err : (w : Why) → goals n names acc e.goes ≡ Err w → word_line n names used old line ≡ Err w
  worded_err w h = word_is ∙ ap (λ x. and_then x (λ more. Ok (used + length e.goes, more))) h
