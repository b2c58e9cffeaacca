-- The names of the places are apart.
use Rattle.std.proofs.Common.{◌≡◌, ℕ, suc, ◌<◌, ◌≤◌, Bool, true, false, cond, ltb, ◌⊎◌, List, [], ◌∷◌, ◌++◌, map, length, get_or, Some, None, Ok, Err, Option, Result, sym, refl, ap, ◌∙◌, subst, inl, inr, append_assoc, append-nil, arith}
use Rattle.std.specs.Str.{bytes_eq}
use Rattle.std.proofs.lemmas.Slice.Eq.{bytes_eq-Decides}
use Rattle.std.proofs.lemmas.List.{length_push, get_or_append_left, get_or_push}
use Rattle.std.proofs.lemmas.Bool.{cases_lt, cond-true, ltb-true}
use Rattle.drawing.specs.declared.kind.Kind.{Kind}
use Rattle.drawing.specs.Form.{Entry, Line, nothing, place, bad}
use Rattle.drawing.specs.Reading.{held, up, index_of, Why, many_places, and_then, add_new, name_line, name_lines}
use Rattle.drawing.specs.Passes.{Apart}
use Rattle.drawing.specs.Drawn.{with_entry, entries}

no_some : {i : ℕ} → None ≡ Some i → ⊥
no_some e = let z : ◌≡◌ {A = ℕ} 0 1 = cc in omega arith

up_some : (o : Option ℕ) (i : ℕ) → up o ≡ Some i → (j : ℕ) × (o ≡ Some j) × (i ≡ suc j)
up_some None i e = absurd (no_some e)
up_some (Some j) i e = (j, refl, cc)

up_none : (o : Option ℕ) → up o ≡ None → o ≡ None
up_none None e = refl
up_none (Some j) e = absurd (no_some (sym e))

-- the index is of the name
pub index_is : (x : List ℕ) (names : List (List ℕ)) (i : ℕ) → index_of x names ≡ Some i → (i < length names) × (get_or names i [] ≡ x)
index_is x [] i e = absurd (no_some e)
index_is x (y ∷ ys) i e = at (λ j q. index_is x ys j q) (bytes_eq y x) refl e
  where
    at : ((j : ℕ) → index_of x ys ≡ Some j → (j < length ys) × (get_or ys j [] ≡ x)) → (t : Bool) → bytes_eq y x ≡ t → cond t (Some 0) (up (index_of x ys)) ≡ Some i → (i < suc (length ys)) × (get_or (y ∷ ys) i [] ≡ x)
    at rec true s h = let z : 0 ≡ i = cc in subst (λ k. (k < suc (length ys)) × (get_or (y ∷ ys) k [] ≡ x)) z (omega arith, (bytes_eq-Decides y x).0 s)
    at rec false s h =
        let t = up_some (index_of x ys) i h in
        let on = rec t.0 t.1 in
        subst (λ k. (k < suc (length ys)) × (get_or (y ∷ ys) k [] ≡ x)) (sym t.2) (omega (arith, on.0), on.1)

index_append : (x : List ℕ) (names more : List (List ℕ)) (i : ℕ) → index_of x names ≡ Some i → index_of x (names ++ more) ≡ Some i
index_append x [] more i e = absurd (no_some e)
index_append x (y ∷ ys) more i e = at (λ j q. index_append x ys more j q) (bytes_eq y x) e
  where
    at : ((j : ℕ) → index_of x ys ≡ Some j → index_of x (ys ++ more) ≡ Some j) → (t : Bool) → cond t (Some 0) (up (index_of x ys)) ≡ Some i → cond t (Some 0) (up (index_of x (ys ++ more))) ≡ Some i
    at rec true h = h
    at rec false h = let t = up_some (index_of x ys) i h in ap up (rec t.0 t.1) ∙ ap Some (sym t.2)

index_last : (x : List ℕ) (names : List (List ℕ)) → index_of x names ≡ None → index_of x (names ++ (x ∷ [])) ≡ Some (length names)
index_last x [] e = cond-true _ _ _ ((bytes_eq-Decides x x).1 refl)
index_last x (y ∷ ys) e = at (λ q. index_last x ys q) (bytes_eq y x) e
  where
    at : (index_of x ys ≡ None → index_of x (ys ++ (x ∷ [])) ≡ Some (length ys)) → (t : Bool) → cond t (Some 0) (up (index_of x ys)) ≡ None → cond t (Some 0) (up (index_of x (ys ++ (x ∷ [])))) ≡ Some (suc (length ys))
    at rec true h = absurd (no_some (sym h))
    at rec false h = ap up (rec (up_none _ h))

apart_push : (x : List ℕ) (names : List (List ℕ)) → Apart names → index_of x names ≡ None → Apart (names ++ (x ∷ []))
apart_push x names a none i l = at (cases_lt i (length names))
  where
    at : (i < length names) ⊎ (length names ≤ i) → index_of (get_or (names ++ (x ∷ [])) i []) (names ++ (x ∷ [])) ≡ Some i
    at (inl h) = ap (λ y. index_of y (names ++ (x ∷ []))) (get_or_append_left names (x ∷ []) [] i h) ∙ index_append _ names (x ∷ []) i (a i h)
    at (inr h) =
        let last : length names ≡ i = omega (arith, l, length_push names x) in
        ap (λ y. index_of y (names ++ (x ∷ []))) (get_or_push names x [] i last) ∙ index_last x names none ∙ ap Some last

pub ok_err : {A B : Type 0} {x : A} {y : B} → Err y ≡ Ok x → ⊥
ok_err e = let z : ◌≡◌ {A = ℕ} 0 1 = cc in omega arith

-- the names so far are apart, are few enough, and are followed by those of the line
pub record Follow (old : List (List ℕ)) (es : List Entry) (new : List (List ℕ)) : Type 0 where
  pub apart : Apart old → Apart new
  pub few : length old ≤ 16384 → length new ≤ 16384
  pub are : new ≡ old ++ map (λ e. e.named) es

follow_none : (old new : List (List ℕ)) → old ≡ new → Follow old [] new
follow_none old new e = record { apart = λ a. subst Apart e a; few = λ h. subst (λ l. length l ≤ 16384) e h; are = sym e ∙ sym (append-nil old) }

add_follow : (n : ℕ) (old new : List (List ℕ)) (e : Entry) (o : Option ℕ) → index_of e.named old ≡ o → add_new n old e.named o ≡ Ok new → Follow old (e ∷ []) new
add_follow n old new e (Some i) q h = absurd (ok_err h)
add_follow n old new e None q h = at (ltb (length old) 16384) refl h
  where
    at : (t : Bool) → ltb (length old) 16384 ≡ t → cond t (Ok (old ++ (e.named ∷ []))) (Err (many_places n)) ≡ Ok new → Follow old (e ∷ []) new
    at true l r =
        let same : old ++ (e.named ∷ []) ≡ new = cc in
        record {
          apart = λ a. subst Apart same (apart_push e.named old a q);
          few = λ _. subst (λ m. length m ≤ 16384) same (rw (length_push old e.named) (omega (arith, ltb-true (length old) 16384 l)));
          are = sym same;
        }
    at false l r = absurd (ok_err r)

pub line_follow : (n : ℕ) (old new : List (List ℕ)) (l : Line) → name_line n old l ≡ Ok new → Follow old (with_entry l []) new
line_follow n old new nothing h = follow_none old new cc
line_follow n old new (bad f) h = absurd (ok_err h)
line_follow n old new (place e) h = add_follow n old new e (index_of e.named old) refl h

with_map : (l : Line) (es : List Entry) → map (λ e. e.named) (with_entry l es) ≡ map (λ e. e.named) (with_entry l []) ++ map (λ e. e.named) es
with_map nothing es = refl
with_map (bad f) es = refl
with_map (place e) es = refl

pub lines_follow : (kind : Kind) (ls : List (List ℕ)) (n : ℕ) (old new : List (List ℕ)) → name_lines kind n old ls ≡ Ok new → Follow old (entries kind ls) new
lines_follow kind [] n old new h = follow_none old new cc
lines_follow kind (l ∷ ls) n old new h = at (λ more q. lines_follow kind ls (suc n) more new q) (name_line n old (held kind l)) refl h
  where
    at : ((more : List (List ℕ)) → name_lines kind (suc n) more ls ≡ Ok new → Follow more (entries kind ls) new) → (x : Result (List (List ℕ)) Why) → name_line n old (held kind l) ≡ x → and_then x (λ more. name_lines kind (suc n) more ls) ≡ Ok new → Follow old (with_entry (held kind l) (entries kind ls)) new
    at rec (Ok more) q h =
        let one = line_follow n old more (held kind l) q in
        let rest = rec more h in
        record {
          apart = λ a. rest.apart (one.apart a);
          few = λ m. rest.few (one.few m);
          are = rest.are ∙ ap (λ k. k ++ map (λ e. e.named) (entries kind ls)) one.are ∙ append_assoc old _ _ ∙ ap (λ k. old ++ k) (sym (with_map (held kind l) (entries kind ls)));
        }
    at rec (Err y) q h = absurd (ok_err h)

pub apart_different : (names : List (List ℕ)) → Apart names → (i j : ℕ) → i < j → j < length names → get_or names i [] ≡ get_or names j [] → ⊥
apart_different names a i j l m e =
    let same : Some i ≡ Some j = sym (a i (omega arith)) ∙ ap (λ y. index_of y names) e ∙ a j m in
    let z : i ≡ j = cc in
    omega arith
