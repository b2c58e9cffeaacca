-- Words read one place at a time: what a place's words are, what is left behind them, and what a whole game is made of.
use Rattle.std.proofs.Common.{◌≡◌, ℕ, suc, ◌+◌, ◌-◌, ◌<◌, ◌≤◌, Bool, true, false, ◌&&◌, T, ltb, List, [], ◌∷◌, ◌++◌, length, take, drop, Some, None, Ok, Err, Option, Result, add-zero, sym, refl, ap, ◌∙◌, subst, arith, le→leb}
use Rattle.std.proofs.lemmas.List.{drop-drop, drop_all, append-nil, append_assoc, length-append, take_at, drop_at, take-append-drop, length-take-le, length-drop, take_rest}
use Rattle.std.specs.List.{list_all}
use Rattle.std.proofs.lemmas.Bool.{both_ways}
use Rattle.std.proofs.lemmas.Iterator.{YieldsList}
use Rattle.std.proofs.lemmas.Iterator.Consumers.{YieldsList-turn, YieldsList-end}
use Rattle.std.specs.Fn.{Called}
use Rattle.std.specs.Iterator.{YieldsThen}
use Rattle.std.specs.List.{FoldsTo}
use Rattle.std.specs.Option.{MatchOption}
use Rattle.std.specs.Result.{result_ok}
use denote.Param.Members.{Mut}
use Rattle.endless.specs.Games.{Place, Game, Reads, below, ok_ps, row}
use Rattle.endless.specs.Sides.{number, NamesSide}
use Rattle.endless.specs.Heads.{Begins}
use Rattle.endless.specs.Words.{Stands, PlaceEnds}
use Rattle.endless.proofs.Tests.{T_true, true_T, from_both}
use Rattle.endless.proofs.Places.{ok_parts, ok_from, ok_size}
use Rattle.endless.specs.declared.side.Side.{Side}
use Rattle.endless.specs.declared.side.Side.TheVariants.{Even, Odd}
use Rattle.endless.specs.declared.side.NoSide.{NoSide}
use Rattle.endless.specs.declared.place.Head.{Head}

-- moves tested one by one
pub all_is_below : (n : ℕ) (s : List ℕ) → list_all (λ x. ltb x n) s ≡ below n s
all_is_below n [] = refl
all_is_below n (x ∷ xs) = ap (λ (b : Bool). ltb x n && b) (all_is_below n xs)

-- a place's words, and what follows them
pub row_then : (p : Place) (ps : List Place) → row (p ∷ []) ++ row ps ≡ row (p ∷ ps)
row_then p ps = ap (λ (r : List ℕ). p.whose ∷ p.weight ∷ length p.moves ∷ r) (append_assoc p.moves [] (row ps))

-- words that begin with a head and go on as a place's words: the head is that place's, and its moves come next
pub record SameHead (p : Place) (w k m : ℕ) (rest more : List ℕ) : Type 0 where
  pub owns : p.whose ≡ w
  pub weighs : p.weight ≡ k
  pub counts : length p.moves ≡ m
  pub follows : rest ≡ p.moves ++ more

pub same_head : (p : Place) (w k m : ℕ) (rest more : List ℕ) → w ∷ k ∷ m ∷ rest ≡ row (p ∷ []) ++ more → SameHead p w k m rest more
same_head p w k m rest more e = record {
  owns = cc;
  weighs = cc;
  counts = cc;
  follows = let f : rest ≡ (p.moves ++ []) ++ more = cc in f ∙ ap (λ (l : List ℕ). l ++ more) (append-nil p.moves);
}

-- nor where the moves are too few or lead out of the game
pub moves_out : (s : List ℕ) (n w k m : ℕ) (rest : List ℕ) → s ≡ w ∷ k ∷ m ∷ rest → (m ≤ length rest → below n (take m rest) ≡ false) →
    (p : Place) (more : List ℕ) → s ≡ row (p ∷ []) ++ more → T (ok_ps n (p ∷ [])) → ⊥
moves_out s n w k m rest is out p more e t =
    let h = same_head p w k m rest more (sym is ∙ e) in
    let f = (ok_parts n p [] t).0 in
    let long : m ≤ length rest = omega (arith, ap length h.follows, length-append p.moves more, h.counts) in
    let these : take m rest ≡ p.moves = ap (take m) h.follows ∙ take_at p.moves more m h.counts in
    both_ways (below n p.moves) (sym (ap (below n) these) ∙ out long) (T_true _ f.inside)

-- a head and enough moves into the game are a place
pub place_of : ℕ → ℕ → ℕ → List ℕ → Place
place_of w k m rest = record { whose = w; weight = k; moves = take m rest }

pub place_stands : (s : List ℕ) (at n w k m : ℕ) (rest : List ℕ) → drop at s ≡ w ∷ k ∷ m ∷ rest → w < 2 → k < 256 → 1 ≤ m → m ≤ length rest → below n (take m rest) ≡ true →
    Stands s at n (place_of w k m rest) (at + 3 + m)
unfolding place_of
place_stands s at n w k m rest is w2 k256 m1 long ins =
    let left : drop (at + 3) s ≡ rest = sym (drop-drop 3 at s) ∙ ap (drop 3) is in
    let end : drop (at + 3 + m) s ≡ drop m rest = sym (drop-drop m (at + 3) s) ∙ ap (drop m) left in
    let count : length (take m rest) ≡ m = length-take-le m rest long in
    let whole : rest ≡ (take m rest ++ []) ++ drop (at + 3 + m) s = sym (ap (λ (l : List ℕ). l ++ drop (at + 3 + m) s) (append-nil (take m rest)) ∙ ap (λ (l : List ℕ). take m rest ++ l) end ∙ take-append-drop m rest) in
    record {
      is = is ∙ (cc);
      fine = ok_from n (place_of w k m rest) [] (record { side = w2; light = k256; moving = omega arith; inside = true_T _ ins }) tt;
      within = omega (arith, length-drop (at + 3) s, ap length left, length-drop at s, ap length is);
    }

-- a head read from the slice that starts at `at`, and the slice of the moves behind it
pub number_below : (w : Side) → number w < 2
number_below Even = omega arith
number_below Odd = omega arith

-- a word that names a side is the side's number, and one that names none is 2 or more
pub names_side : (word : ℕ) (r : Result Side NoSide) (side : Side) → NamesSide word r → Some side ≡ result_ok r → word ≡ number side
names_side word (Ok w) side is e = is ∙ ap number (let same : w ≡ side = cc e in same)
names_side word (Err e) side is none = absurd (let no : ⊥ = cc none in no)

pub names_none : (word : ℕ) (r : Result Side NoSide) → NamesSide word r → None ≡ result_ok r → 2 ≤ word
names_none word (Ok w) is e = absurd (let no : ⊥ = cc e in no)
names_none word (Err e) is none = is.1

abbrev pub Behind : List ℕ → ℕ → List ℕ
Behind s at = take (length s - at) (drop at s)

head_at : (s : List ℕ) (at : ℕ) (h : Head) → Begins (Behind s at) h → drop at s ≡ number h.whose ∷ h.weight ∷ h.moves ∷ drop (at + 3) s
head_at s at h b =
    let e : drop at s ≡ number h.whose ∷ h.weight ∷ h.moves ∷ b.rest = sym (take_rest s at) ∙ b.is in
    e ∙ ap (λ (l : List ℕ). number h.whose ∷ h.weight ∷ h.moves ∷ l) (sym (ap (drop 3) e) ∙ drop-drop 3 at s)

moves_at : (s : List ℕ) (at n m : ℕ) → below n (take (m - 0) (Behind s at)) ≡ below n (take m (drop at s))
moves_at s at n m = let z : m - 0 ≡ m = omega arith in ap (λ (k : ℕ). below n (take k (Behind s at))) z ∙ ap (λ (l : List ℕ). below n (take m l)) (take_rest s at)

pub place_found : (s : List ℕ) (at n : ℕ) (h : Head) → Begins (Behind s at) h → h.moves ≤ length (Behind s (at + 3)) → below n (take (h.moves - 0) (Behind s (at + 3))) ≡ true →
    (p : Place) × Stands s at n p (at + 3 + h.moves)
place_found s at n h b long ins =
    let room : h.moves ≤ length (drop (at + 3) s) = omega (arith, ap length (take_rest s (at + 3))) in
    (place_of (number h.whose) h.weight h.moves (drop (at + 3) s), place_stands s at n _ _ _ _ (head_at s at h b) (number_below h.whose) b.light b.moving room (sym (moves_at s (at + 3) n h.moves) ∙ ins))

pub place_missing : (s : List ℕ) (at n : ℕ) (h : Head) → Begins (Behind s at) h → (h.moves ≤ length (Behind s (at + 3)) → below n (take (h.moves - 0) (Behind s (at + 3))) ≡ false) →
    (p : Place) (rest : List ℕ) → drop at s ≡ row (p ∷ []) ++ rest → T (ok_ps n (p ∷ [])) → ⊥
place_missing s at n h b out =
    moves_out (drop at s) n _ _ _ (drop (at + 3) s) (head_at s at h b) (λ long. sym (moves_at s (at + 3) n h.moves) ∙ out (omega (arith, ap length (take_rest s (at + 3)))))

-- i of n places are read, and the next stands at `at`: what is left decides whether the words are a game
pub record Reading (s : List ℕ) (n i at : ℕ) : Type 0 where
  pub within : at ≤ length s
  pub enough : (ps : List Place) → length ps + i ≡ n → drop at s ≡ row ps → T (ok_ps n ps) → (g : Game) × Reads s g
  pub needed : (g : Game) → Reads s g → (ps : List Place) × (length ps + i ≡ n) × (drop at s ≡ row ps) × T (ok_ps n ps)

pub reading_none : (s : List ℕ) (n : ℕ) (rest : List ℕ) → s ≡ n ∷ rest → 1 ≤ n → n ≤ 16384 → Reading s n 0 1
reading_none s n rest is low high = record {
  within = omega (arith, ap length is);
  enough = λ ps many left ok.
      let size : length ps ≡ n = omega arith in (
        ps,
        record {
          is = is ∙ (cc (ap (drop 1) is));
          fine = from_both _ _ (le→leb 1 (length ps) (omega arith)) (from_both _ _ (le→leb (length ps) 16384 (omega arith)) (subst (λ (k : ℕ). T (ok_ps k ps)) (sym size) ok));
        },
      );
  needed = λ g r.
      let size : length g ≡ n = cc (r.is, is) in
      (g, omega arith, ap (drop 1) r.is, subst (λ (k : ℕ). T (ok_ps k g)) size (ok_size s g r).2);
}

-- one place more
pub reading_more : (s : List ℕ) (n i at : ℕ) (p : Place) (end : ℕ) → i < n → Reading s n i at → Stands s at n p end → Reading s n (i + 1) end
reading_more s n i at p end h r st = record {
  within = st.within;
  enough = λ ps many left ok.
      r.enough (p ∷ ps) (omega arith) (st.is ∙ ap (λ (l : List ℕ). row (p ∷ []) ++ l) left ∙ row_then p ps) (ok_from n p ps (ok_parts n p [] st.fine).0 ok);
  needed = λ g rd. onward (r.needed g rd);
}
  where
    onward : (ps : List Place) × (length ps + i ≡ n) × (drop at s ≡ row ps) × T (ok_ps n ps) → (ps : List Place) × (length ps + (i + 1) ≡ n) × (drop end s ≡ row ps) × T (ok_ps n ps)
    onward ([], many, left, ok) = absurd (omega arith)
    onward (q ∷ ps, many, left, ok) =
        let hd = same_head p q.whose q.weight (length q.moves) (q.moves ++ row ps) (drop end s) (sym left ∙ st.is) in
        (ps, omega arith, sym (drop_at p.moves (drop end s) (length q.moves) hd.counts) ∙ sym (ap (drop (length q.moves)) hd.follows) ∙ drop_at q.moves (row ps) (length q.moves) refl, (ok_parts n q ps ok).1)

-- no place stands there: the words are no game
pub reading_stops : (s : List ℕ) (n i at : ℕ) → i < n → Reading s n i at → ((p : Place) (rest : List ℕ) → drop at s ≡ row (p ∷ []) ++ rest → T (ok_ps n (p ∷ [])) → ⊥) → (g : Game) → Reads s g → ⊥
reading_stops s n i at h r none g rd = stuck (r.needed g rd)
  where
    stuck : (ps : List Place) × (length ps + i ≡ n) × (drop at s ≡ row ps) × T (ok_ps n ps) → ⊥
    stuck ([], many, left, ok) = omega arith
    stuck (q ∷ ps, many, left, ok) = none q (row ps) (left ∙ sym (row_then q ps)) (ok_from n q [] (ok_parts n q ps ok).0 tt)

-- all places are read: the words are a game exactly where nothing stands behind
pub reading_all : (s : List ℕ) (n i at : ℕ) → i ≡ n → Reading s n i at → at ≡ length s → (g : Game) × Reads s g
reading_all s n i at e r end = r.enough [] (omega arith) (drop_all at s (omega arith)) tt

pub reading_behind : (s : List ℕ) (n i at : ℕ) → i ≡ n → Reading s n i at → (g : Game) → Reads s g → at ≡ length s
reading_behind s n i at e r g rd = ended (r.needed g rd)
  where
    ended : (ps : List Place) × (length ps + i ≡ n) × (drop at s ≡ row ps) × T (ok_ps n ps) → at ≡ length s
    ended ([], many, left, ok) = omega (arith, r.within, length-drop at s, ap length left)
    ended (q ∷ ps, many, left, ok) = absurd (omega arith)

-- one place read after the other by a closure that says where each ends
abbrev pub Goes : {F : Type 0} → Mut F (ℕ × (ℕ × Unit {0})) (Option ℕ) → F × ℕ → ℕ → F × ℕ → Type 0
Goes g p x q = (v : Option ℕ) × Called g p.0 (p.1, (x, tt)) v q.0 × (v ≡ Some q.1)

module _ {F : Type 0} (g : Mut F (ℕ × (ℕ × Unit {0})) (Option ℕ)) (f : F) (s : List ℕ) (n : ℕ)
    (ends : (at x : ℕ) (r : Option ℕ) (h : F) → Called g f (at, (x, tt)) r h → (h ≡ f) × PlaceEnds s at n r) where
  turns : (xs : List ℕ) (i at : ℕ) (p q : F × ℕ) → p ≡ (f, at) → i + length xs ≤ n → Reading s n i at → FoldsTo (Goes g) p xs q → (q.0 ≡ f) × Reading s n (i + length xs) q.1
  turns [] i at p q e fit r folds =
      let here : q ≡ (f, at) = sym folds ∙ e in
      (ap (λ z. z.0) here, subst (λ m. Reading s n m q.1) (sym (add-zero i)) (subst (Reading s n i) (sym (ap (λ z. z.1) here)) r))
  turns (x ∷ xs) i at p q e fit r (j, (v, called, on), folds) =
      let t = ends at x v j.0 (subst (λ z. Called g z.0 (z.1, (x, tt)) v j.0) e called) in
      let st : PlaceEnds s at n (Some j.1) = subst (PlaceEnds s at n) on t.1 in
      let more = turns xs (i + 1) j.1 j q (λ k. (t.0 k, j.1)) (omega arith) (reading_more s n i at st.0 j.1 (omega arith) r st.1) folds in
      (more.0, subst (λ m. Reading s n m q.1) (let sum : i + 1 + length xs ≡ i + suc (length xs) = omega arith in sum) more.1)

-- over n turns: where the last place ends, or that the words are no game
pub read_in_turns : {F E S : Type 0} {steps : S → Option ℕ → S → Type 0} {start : S} (g : Mut F (ℕ × (ℕ × Unit {0})) (Option ℕ)) (f : F) (s : List ℕ) (n : ℕ) (result : Option ℕ) (last : S) (all : List ℕ)
    → (xs : List ℕ) × (o : Option ℕ) × (f' : F) × (a : ℕ) × YieldsThen steps start xs o last × FoldsTo (Goes g) (f, 1) xs (f', a)
    × MatchOption o (result ≡ Some a) (λ x. (v : Option ℕ) × (h : F) × (e : E) × Called g f' (a, (x, tt)) v h × (v ≡ None) × (result ≡ None))
    → ((at x : ℕ) (r : Option ℕ) (h : F) → Called g f (at, (x, tt)) r h → (h ≡ f) × PlaceEnds s at n r)
    → YieldsList steps (λ x. x) start all → length all ≡ n → Reading s n 0 1
    → MatchOption result ((game : Game) → Reads s game → ⊥) (λ end. Reading s n n end)
read_in_turns g f s n result last all (xs, None, f', at, (t, yields, step), folds, on) ends road many first =
    let end = YieldsList-end road xs t yields None last refl step in
    let r = turns g f s n ends xs 0 1 (f, 1) (f', at) refl (omega (arith, end.1)) first folds in
    subst (λ o. MatchOption o ((game : Game) → Reads s game → ⊥) (λ end. Reading s n n end)) (sym on)
    (subst (λ m. Reading s n m at) (let all-read : 0 + length xs ≡ n = omega (arith, end.1) in all-read) r.1)
read_in_turns g f s n result last all (xs, Some x, f', at, (t, yields, step), folds, (v, h, e, called, off, made)) ends road many first =
    let turn = YieldsList-turn road xs t yields (Some x) last x refl step in
    let r = turns g f s n ends xs 0 1 (f, 1) (f', at) refl (omega (arith, turn.0)) first folds in
    let missing : PlaceEnds s at n None = subst (PlaceEnds s at n) off (ends at x v h (subst (λ z. Called g z (at, (x, tt)) v h) r.0 called)).1 in
    subst (λ o. MatchOption o ((game : Game) → Reads s game → ⊥) (λ end. Reading s n n end)) (sym made)
    (reading_stops s n (0 + length xs) at (omega (arith, turn.0)) r.1 missing)
