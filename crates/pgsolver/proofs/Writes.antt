-- Ids are looked up, and the words of the places are written.
use Rattle.std.proofs.Common.{length-take-le, get_or-take, ◌≡◌, ℕ, zero, suc, ◌+◌, ◌<◌, ◌≤◌, Bool, true, false, not, cond, eqb, ◌&&◌, ◌||◌, ltb, List, [], ◌∷◌, ◌++◌, map, length, get_or, take, drop, Some, None, Err, sym, refl, ap, ◌∙◌, subst, ⊎_elim, append_assoc, append-nil, arith}
use Rattle.std.proofs.lemmas.List.{length-map, take_more, take_all, get_or-map, map_push, drop_more, drop_all, get_or_read}
use Rattle.std.specs.List.{zip, enumerate_from, list_any, position, position_or_len}
use Rattle.std.proofs.lemmas.List.Folds.{list_any_at}
use Rattle.std.proofs.lemmas.List.Sums.{fails_before_first, passes_at_first}
use Rattle.indexmap.specs.IndexSet.{insert_key}
use Rattle.std.proofs.lemmas.List.FromFn.{length-enumerate_from, get_or-enumerate_from}
use Rattle.std.proofs.lemmas.Slice.Zip.{length-zip, get_or-zip}
use Rattle.std.proofs.lemmas.Bool.{cases_lt, lt-ltb, and_from, cond-false, eq-eqb, eqb-true, eqb-false, ltb-true, ltb-false}
use Rattle.endless.specs.Games.{Place, below, some_of, row as words}
use Rattle.endless.specs.Sides.{number}
use Rattle.endless.specs.declared.side.Side.{Side}
use Rattle.endless.specs.declared.side.Side.TheVariants.{Even, Odd}
use Rattle.pgsolver.specs.Form.{Entry}
use Rattle.pgsolver.specs.declared.wrong.Wrong.{Wrong}
use Rattle.pgsolver.specs.declared.wrong.Wrong.TheVariants.{Twice, Unknown, Priority, Memory}
use Rattle.pgsolver.specs.Weights.{weights_of}
use Rattle.pgsolver.specs.Table.{Finds}
use Rattle.pgsolver.specs.Wrongs.{Again, SomeOf, Gone, Went, Fine, FineAll, Ready, Played, Worded}

pub gone_none : (ids acc : List ℕ) → Gone ids [] acc acc
gone_none ids acc = record { to = []; is = sym (append-nil acc); reads = refl; low = refl }

below_push : (m : ℕ) (xs : List ℕ) (x : ℕ) → below m xs ≡ true → x < m → below m (xs ++ (x ∷ [])) ≡ true
below_push m [] x h l = and_from _ _ (lt-ltb x m l) refl
below_push m (y ∷ ys) x h l = at (ltb y m) h (λ k. below_push m ys x k l)
  where
    at : (t : Bool) → (t && below m ys) ≡ true → (below m ys ≡ true → below m (ys ++ (x ∷ [])) ≡ true) → (t && below m (ys ++ (x ∷ []))) ≡ true
    at true k rec = rec k
    at false k rec = k

pub gone_more : (ids goes acc new : List ℕ) (k i : ℕ) → Gone ids (take k goes) acc new → k < length goes → i < length ids → get_or ids i 0 ≡ get_or goes k 0 → (longer : List ℕ) → longer ≡ new ++ (i ∷ []) → Gone ids (take (k + 1) goes) acc longer
gone_more ids goes acc new k i g l within e longer more = record {
  to = g.to ++ (i ∷ []);
  is = more ∙ ap (λ l. l ++ (i ∷ [])) g.is ∙ append_assoc acc g.to (i ∷ []);
  reads = map_push (λ i. get_or ids i 0) g.to i ∙ ap (λ l. l ++ (get_or ids i 0 ∷ [])) g.reads ∙ ap (λ x. take k goes ++ (x ∷ [])) e ∙ sym (take_more goes k 0 l);
  low = below_push (length ids) g.to i g.low within;
}

pub gone_all : (ids goes acc new : List ℕ) (k : ℕ) → Gone ids (take k goes) acc new → length goes ≤ k → Gone ids goes acc new
gone_all ids goes acc new k g l = subst (λ x. Gone ids x acc new) (take_all k goes l) g

pub not_false : (b : Bool) → not b ≡ false → b ≡ true
not_false true e = refl
not_false false e = sym e

pub not_true : (b : Bool) → not b ≡ true → b ≡ false
not_true true e = sym e
not_true false e = refl

-- the id is among the keys
any_at : (x : ℕ) (ks : List ℕ) → list_any (eqb x) ks ≡ true → (i : ℕ) × (i < length ks) × (get_or ks i 0 ≡ x)
any_at x [] e = absurd (let z : false ≡ true = e in cc)
any_at x (k ∷ ks) e = at (λ h. any_at x ks h) (eqb x k) refl e
  where
    at : (list_any (eqb x) ks ≡ true → (i : ℕ) × (i < length ks) × (get_or ks i 0 ≡ x)) → (t : Bool) → eqb x k ≡ t → (t || list_any (eqb x) ks) ≡ true → (i : ℕ) × (i < length (k ∷ ks)) × (get_or (k ∷ ks) i 0 ≡ x)
    at rec true q h = (0, omega arith, sym (eqb-true x k q))
    at rec false q h = let r = rec h in (suc r.0, omega (arith, r.1), r.2)

none_at : (x : ℕ) (ks : List ℕ) → list_any (eqb x) ks ≡ false → (i : ℕ) → i < length ks → get_or ks i 0 ≡ x → ⊥
none_at x ks e i l same = absurd (let z : true ≡ false = sym (list_any_at (eqb x) ks i 0 l (eq-eqb x _ (sym same))) ∙ e in cc)

-- where an id is looked up
pub found_at : (ids : List ℕ) (x : ℕ) → Finds ids x (position (eqb x) ids)
found_at ids x = at (ltb (position_or_len (eqb x) ids) (length ids)) refl
  where
    at : (t : Bool) → ltb (position_or_len (eqb x) ids) (length ids) ≡ t → Finds ids x (cond t (Some (position_or_len (eqb x) ids)) None)
    at true q = let l = ltb-true _ _ q in (l, sym (eqb-true x _ (passes_at_first (eqb x) ids 0 l)))
    at false q = λ i l e. eqb-false x _ (fails_before_first (eqb x) ids i 0 (omega (arith, l, ltb-false _ _ q))) (sym e)

-- the keys are the first n ids, which all differ
pub record IndexedTo (ids keys : List ℕ) (n : ℕ) : Type 0 where
  pub are : keys ≡ take n ids
  pub apart : (i j : ℕ) → i < j → j < n → get_or ids i 0 ≡ get_or ids j 0 → ⊥

pub indexed_none : (ids keys : List ℕ) → keys ≡ [] → IndexedTo ids keys 0
indexed_none ids keys e = record {
  are = e;
  apart = λ i j l k. absurd (omega arith);
}

module _ (ids keys : List ℕ) (n x : ℕ) (s : IndexedTo ids keys n) (l : n < length ids) (is : get_or ids n 0 ≡ x) where
  many : length keys ≡ n
  many = ap length s.are ∙ length-take-le n ids (omega (arith, l))

  key_is : (i : ℕ) → i < n → get_or keys i 0 ≡ get_or ids i 0
  key_is i k = ap (λ l. get_or l i 0) s.are ∙ get_or-take n ids i 0 k

  pub indexed_twice : list_any (eqb x) keys ≡ true → Again ids n
  indexed_twice h =
      let t = any_at x keys h in
      let before : t.0 < n = omega (arith, t.1, many) in
      (l, (t.0, before, sym (key_is t.0 before) ∙ t.2 ∙ sym is))

  pub indexed_more : list_any (eqb x) keys ≡ false → (new : List ℕ) → new ≡ insert_key eqb keys x → IndexedTo ids new (n + 1)
  indexed_more h new e = record {
    are = e ∙ cond-false _ _ _ h ∙ ap (λ l. l ++ (x ∷ [])) s.are ∙ ap (λ y. take n ids ++ (y ∷ [])) (sym is) ∙ sym (take_more ids n 0 l);
    apart = λ i j l k same. ⊎_elim
        (λ b. s.apart i j l b same)
        (λ b. let last : j ≡ n = omega (arith, b, k) in
        let low : i < n = omega (arith, l, last) in
        none_at x keys h i (omega (arith, low, many)) (key_is i low ∙ same ∙ ap (λ m. get_or ids m 0) last ∙ is))
        (cases_lt j n);
  }

pub three_more : (old one two three : List ℕ) (s w m : ℕ) → one ≡ old ++ (s ∷ []) → two ≡ one ++ (w ∷ []) → three ≡ two ++ (m ∷ []) → three ≡ old ++ (s ∷ w ∷ m ∷ [])
three_more old one two three s w m a b c =
    c ∙ ap (λ l. l ++ (m ∷ [])) (b ∙ ap (λ l. l ++ (w ∷ [])) a) ∙ append_assoc (old ++ (s ∷ [])) (w ∷ []) (m ∷ []) ∙ append_assoc old (s ∷ []) (w ∷ m ∷ [])

-- what is left to write
pub record LeftWords (ids : List ℕ) (es : List Entry) (ws now : List ℕ) (n : ℕ) : Type 0 where
  pub onward : (new : List ℕ) → Played ids (drop n es) (drop n ws) now new → Played ids es ws (length es ∷ []) new

pub words_first : (ids : List ℕ) (es : List Entry) (ws now : List ℕ) → now ≡ length es ∷ [] → LeftWords ids es ws now 0
words_first ids es ws now is = record { onward = λ new p. subst (λ l. Played ids es ws l new) is p }

fine_at : (es : List Entry) (n : ℕ) (d : Entry) → FineAll es → n < length es → Fine (get_or es n d)
fine_at [] n d f l = absurd (omega arith)
fine_at (e ∷ es) zero d f l = f.0
fine_at (e ∷ es) (suc n) d f l = fine_at es n d f.1 (omega (arith, l))

some_true : (ms : List ℕ) → 0 < length ms → some_of ms ≡ true
some_true [] h = absurd (omega arith)
some_true (x ∷ xs) h = refl

side_low : (w : Side) → number w < 2
side_low Even = omega arith
side_low Odd = omega arith

module _ (ids : List ℕ) (es : List Entry) (ws now : List ℕ) (r : Ready ws es) (n : ℕ) (s : LeftWords ids es ws now n) (l : n < length es) (e : Entry) (is : get_or es n e ≡ e) where
  fine : Fine e
  fine = subst Fine is (fine_at es n e r.fine l)

  pub goes_few : length e.goes ≤ 64000
  goes_few = fine.few

  pub weight_inside : n < length ws
  weight_inside = omega (arith, l, r.weighed)

  module _ (w : ℕ) (weight_is : w ≡ get_or ws n 0) (next : List ℕ) where
    abbrev behind : List ℕ
    behind = now ++ (number e.first.owner ∷ w ∷ length e.goes ∷ [])

    pub words_wrong : (x : Wrong) → Went ids e.goes n behind next (Err x) → Worded ids es ws (Err x)
    words_wrong (Twice m) h = h
    words_wrong (Unknown m x) h = (omega (arith, h.0, l), subst (λ k. SomeOf (get_or (map (λ e. e.goes) es) k []) x) (sym h.0) (subst (λ g. SomeOf g x) (sym (get_or-map (λ e. e.goes) es n e [] l ∙ ap (λ e. e.goes) is)) h.1), h.2)
    words_wrong (Priority m) h = h
    words_wrong Memory h = tt

    module _ (g : Gone ids e.goes behind next) where
      abbrev big : Place
      big = record { whose = number e.first.owner; weight = e.first.priority; moves = g.to }

      abbrev here : Place
      here = record { whose = number e.first.owner; weight = w; moves = g.to }

      same_many : length g.to ≡ length e.goes
      same_many = sym (length-map g.to (λ i. get_or ids i 0)) ∙ ap length g.reads

      light : w < 256
      light = omega (arith, weight_is, r.low n weight_inside)

      play : (new : List ℕ) → Played ids (drop (n + 1) es) (drop (n + 1) ws) next new → Played ids (e ∷ drop (n + 1) es) (get_or ws n 0 ∷ drop (n + 1) ws) now new
      play new p = record {
        whole = big ∷ p.whole;
        game = here ∷ p.game;
        is = p.is ∙ ap (λ l. l ++ words p.game) g.is ∙ append_assoc behind g.to (words p.game) ∙ append_assoc now (number e.first.owner ∷ w ∷ length e.goes ∷ []) (g.to ++ words p.game) ∙ ap (λ m. now ++ (number e.first.owner ∷ w ∷ m ∷ (g.to ++ words p.game))) (sym same_many);
        ok = and_from _ _ (and_from _ _ (lt-ltb (number e.first.owner) 2 (side_low e.first.owner)) (lt-ltb w 256 light)) (and_from _ _ (and_from _ _ (some_true g.to (omega (arith, fine.some, same_many))) g.low) p.ok);
        alike = (refl, refl, p.alike);
        weighs = ap (λ x. x ∷ weights_of p.game) weight_is ∙ ap (λ l. get_or ws n 0 ∷ l) p.weighs;
        places = (record { owns = refl; heavy = refl; moved = g.reads }, p.places);
      }

      rest_is : drop n es ≡ e ∷ drop (n + 1) es
      rest_is = drop_more es n e l ∙ ap (λ x. x ∷ drop (n + 1) es) is

      pub words_more : LeftWords ids es ws next (n + 1)
      words_more = record {
        onward = λ new p. s.onward new (subst (λ l. Played ids l (drop n ws) now new) (sym rest_is) (subst (λ l. Played ids (e ∷ drop (n + 1) es) l now new) (sym (drop_more ws n 0 weight_inside)) (play new p)));
      }

pub words_all : (ids : List ℕ) (es : List Entry) (ws now : List ℕ) → Ready ws es → (n : ℕ) → LeftWords ids es ws now n → length es ≤ n → Played ids es ws (length es ∷ []) now
words_all ids es ws now r n s end =
    s.onward now (subst (λ x. Played ids x (drop n ws) now now) (sym (drop_all n es end)) (subst (λ x. Played ids [] x now now) (sym (drop_all n ws (omega (arith, end, r.weighed)))) (record { whole = []; game = []; is = sym (append-nil now); ok = refl; alike = tt; weighs = refl; places = tt })))

-- a node and its weight come together
pub paired : (nodes : List Entry) (ws : List ℕ) (i n w : ℕ) (d : Entry) → i < length (zip (enumerate_from 0 nodes) ws) → ◌≡◌ {A = (ℕ × Entry) × ℕ} ((n, d), w) (get_or (zip (enumerate_from 0 nodes) ws) i ((n, d), w)) → (i < length nodes) × (i ≡ n) × (d ≡ get_or nodes n d) × (w ≡ get_or ws n 0)
paired nodes ws i n w d l e =
    let all : List (ℕ × Entry) = enumerate_from 0 nodes in
    let low : i < length nodes = omega (arith, l, length-zip all ws, length-enumerate_from 0 nodes) in
    let under : i < length ws = omega (arith, l, length-zip all ws) in
    let t : ◌≡◌ {A = (ℕ × Entry) × ℕ} ((n, d), w) ((0 + i, get_or nodes i d), get_or ws i w) = e ∙ get_or-zip all ws i ((n, d), w) (omega (arith, low, length-enumerate_from 0 nodes)) under ∙ ap (λ p. (p, get_or ws i w)) (get_or-enumerate_from 0 nodes i (n, d) low) in
    let same : i ≡ n = let z : n ≡ 0 + i = ap (λ p. p.0.0) t in omega arith in
    (low, same, ap (λ p. p.0.1) t ∙ ap (λ k. get_or nodes k d) same, get_or_read ws i w under (ap (λ p. p.1) t) 0 ∙ ap (λ k. get_or ws k 0) same)
