-- Copying the words of a game with ends place by place: what is read so far and made of it, and what is left.
use Rattle.std.proofs.Common.{◌≡◌, ℕ, suc, ◌+◌, ◌-◌, ◌<◌, ◌≤◌, List, [], ◌∷◌, ◌++◌, length, get_or, take, drop, set, sym, refl, ap, ◌∙◌, subst, arith}
use Rattle.std.proofs.lemmas.List.{drop_more, drop-drop, append-nil, append_assoc, length-append, length-drop, take_more_set, take-append-drop, length-take-le}
use Rattle.endless.specs.Games.{Place, Game, row, some_of, pick, weight, other}
use Rattle.endless.specs.Graph.{moves, Reading}
use Rattle.endless.proofs.Reading.{front_many, reading_next}
use Rattle.ends.specs.declared.mend.Copied.{Copied}
use Rattle.ends.specs.Ends.{ReadsEnds, mended, made_from, made}
use Rattle.ends.specs.Mending.{Light, Copies}
use Rattle.ends.proofs.Forms.{weight_fits}

-- the words behind a place of a game
next_place : (s : List ℕ) (at w k m : ℕ) (rest : List ℕ) → drop at s ≡ w ∷ k ∷ m ∷ rest → (g : Game) (i : ℕ) → i < length g → Reading s g i at → Reading s g (i + 1) (at + (3 + m))
next_place s at w k m rest e g i h r =
    let same : length (moves g i) ≡ m = sym (front_many g i h) ∙ ap (λ (l : List ℕ). get_or l 2 0) (sym r.left ∙ e) in
    subst (λ (x : ℕ). Reading s g (i + 1) (at + (3 + x))) same (reading_next s g i at h r)

-- ---- one place copied

pub copies_end : (s : List ℕ) (at i : ℕ) (t : List ℕ) (to : ℕ) (t' : List ℕ) (w k m : ℕ) → drop at s ≡ w ∷ k ∷ m ∷ drop (at + 3) s → k < 256 → at + 3 + m ≤ length s → m ≡ 0 →
    take (to + 4) t' ≡ take to t ++ (w ∷ other w ∷ 1 ∷ i ∷ []) → Copies s at i t to t' (record { read = 3; written = 4 })
copies_end s at i t to t' w k m e light long none put = record {
  place = record { whose = w; weight = k; moves = [] };
  is = e ∙ ap (λ (x : ℕ). w ∷ k ∷ x ∷ drop (at + 3) s) none;
  light = light;
  within = omega arith;
  put = put;
  longer = omega arith;
  next = λ g h r. subst (λ (x : ℕ). Reading s g (i + 1) (at + (3 + x))) none (next_place s at w k m (drop (at + 3) s) e g i h r);
}

same_place : (i : ℕ) (p : Place) → 1 ≤ length p.moves → mended i p ≡ p
same_place i p h = of p.moves refl
  where
    of : (xs : List ℕ) → p.moves ≡ xs → pick (some_of xs) p (record { whose = p.whose; weight = other p.whose; moves = i ∷ [] }) ≡ p
    of [] e = absurd (omega (arith, ap length e))
    of (x ∷ xs) e = refl

pub copies_moves : (s : List ℕ) (at i : ℕ) (t : List ℕ) (to : ℕ) (t' : List ℕ) (w k m : ℕ) → drop at s ≡ w ∷ k ∷ m ∷ drop (at + 3) s → k < 256 → at + 3 + m ≤ length s → (m ≡ 0 → ⊥) →
    take (to + (3 + m)) t' ≡ take to t ++ take (3 + m) (drop at s) → Copies s at i t to t' (record { read = 3 + m; written = 3 + m })
copies_moves s at i t to t' w k m e light long some put =
    let rest = drop (at + 3) s in
    let count : length (take m rest) ≡ m = length-take-le m rest (omega (arith, length-drop (at + 3) s)) in
    let p : Place = record { whose = w; weight = k; moves = take m rest } in
    let three : 3 + m ≡ suc (suc (suc m)) = omega arith in
    let behind : drop (at + (3 + m)) s ≡ drop m rest = (let z : at + (3 + m) ≡ (at + 3) + m = omega arith in ap (λ (x : ℕ). drop x s) z) ∙ sym (drop-drop m (at + 3) s) in
    let words : row (p ∷ []) ≡ w ∷ k ∷ m ∷ take m rest = ap (λ (l : List ℕ). w ∷ k ∷ length (take m rest) ∷ l) (append-nil (take m rest)) ∙ ap (λ (x : ℕ). w ∷ k ∷ x ∷ take m rest) count in
    let front : take (3 + m) (drop at s) ≡ w ∷ k ∷ m ∷ take m rest = ap (λ (x : ℕ). take x (drop at s)) three ∙ ap (take (suc (suc (suc m)))) e in
    record {
      place = p;
      is = e ∙ sym (ap (λ (l : List ℕ). l ++ drop (at + (3 + m)) s) words ∙ ap (λ (l : List ℕ). w ∷ k ∷ m ∷ (take m rest ++ l)) behind ∙ ap (λ (l : List ℕ). w ∷ k ∷ m ∷ l) (take-append-drop m rest));
      light = light;
      within = omega arith;
      put = put ∙ ap (λ (l : List ℕ). take to t ++ l) (front ∙ sym words ∙ ap (λ (q : Place). row (q ∷ [])) (sym (same_place i p (omega (arith, count)))));
      longer = omega arith;
      next = λ g h r. next_place s at w k m rest e g i h r;
    }

-- what is written, as it stands in the words
pub put_moves : (s : List ℕ) (at : ℕ) (t : List ℕ) (to : ℕ) (t' : List ℕ) (k : ℕ) → at + k ≤ length s →
    take (to + length (take (at + k - at) (drop at s))) t' ≡ take to t ++ take (at + k - at) (drop at s) → take (to + k) t' ≡ take to t ++ take k (drop at s)
put_moves s at t to t' k h e =
    let z : at + k - at ≡ k = omega arith in
    let f : take (to + length (take k (drop at s))) t' ≡ take to t ++ take k (drop at s) = subst (λ (x : ℕ). take (to + length (take x (drop at s))) t' ≡ take to t ++ take x (drop at s)) z e in
    subst (λ (x : ℕ). take (to + x) t' ≡ take to t ++ take k (drop at s)) (length-take-le k (drop at s) (omega (arith, length-drop at s))) f

-- ---- the places read so far

row_append : (ps qs : List Place) → row (ps ++ qs) ≡ row ps ++ row qs
row_append [] qs = refl
row_append (p ∷ ps) qs = ap (λ (l : List ℕ). p.whose ∷ p.weight ∷ length p.moves ∷ l) (ap (λ (l : List ℕ). p.moves ++ l) (row_append ps qs) ∙ sym (append_assoc p.moves (row ps) (row qs)))

made_append : (i : ℕ) (ps : List Place) (p : Place) → made_from i (ps ++ p ∷ []) ≡ made_from i ps ++ mended (i + length ps) p ∷ []
made_append i [] p = let z : i ≡ i + 0 = omega arith in ap (λ (k : ℕ). mended k p ∷ []) z
made_append i (q ∷ ps) p = let z : suc i + length ps ≡ i + suc (length ps) = omega arith in
    ap (λ (l : List Place). mended i q ∷ l) (made_append (suc i) ps p ∙ ap (λ (k : ℕ). made_from (suc i) ps ++ mended k p ∷ []) z)

light_append : (ps : List Place) (p : Place) → Light ps → p.weight < 256 → Light (ps ++ p ∷ [])
light_append [] p l h = (h, tt)
light_append (q ∷ ps) p l h = (l.0, light_append ps p l.1 h)

-- i of n places are read up to `at`, and made up to `to`
pub record Mending (s t : List ℕ) (n i at to : ℕ) : Type 0 where
  pub places : List Place
  pub count : length places ≡ i
  pub is : s ≡ (n ∷ row places) ++ drop at s
  pub made_is : take to t ≡ n ∷ row (made places)
  pub light : Light places
  pub within : at ≤ length s
  pub room : to ≤ at + i
  pub left : (g : Game) → ReadsEnds s g → Reading s g i at

pub mending_none : (s t : List ℕ) (n : ℕ) → n ≡ get_or s 0 0 → 0 < length s → 0 < length t → Mending s (set t 0 n) n 0 1 1
mending_none s t n e h k = record {
  places = [];
  count = refl;
  is = drop_more s 0 0 h ∙ ap (λ (x : ℕ). x ∷ drop 1 s) (sym e);
  made_is = take_more_set t 0 n k;
  light = tt;
  within = omega arith;
  room = omega arith;
  left = λ g r. record { left = ap (drop 1) r.is; bound = omega arith };
}

pub mending_more : (s t : List ℕ) (n i at to : ℕ) (t' : List ℕ) (c : Copied) → i < n → n ≡ get_or s 0 0 → Mending s t n i at to → Copies s at i t to t' c → Mending s t' n (i + 1) (at + c.read) (to + c.written)
mending_more s t n i at to t' c h e m k =
    let ps = m.places in
    let p = k.place in
    let index : 0 + length ps ≡ i = omega (arith, m.count) in
    record {
      places = ps ++ p ∷ [];
      count = length-append ps (p ∷ []) ∙ (omega (arith, m.count));
      is = m.is ∙ ap (λ (l : List ℕ). (n ∷ row ps) ++ l) k.is ∙ ap (λ (l : List ℕ). n ∷ l) (sym (append_assoc (row ps) (row (p ∷ [])) (drop (at + c.read) s)) ∙ ap (λ (l : List ℕ). l ++ drop (at + c.read) s) (sym (row_append ps (p ∷ []))));
      made_is = k.put ∙ ap (λ (l : List ℕ). l ++ row (mended i p ∷ [])) m.made_is ∙ ap (λ (l : List ℕ). n ∷ l) (sym (row_append (made ps) (mended i p ∷ [])) ∙ ap row (ap (λ (x : ℕ). made ps ++ mended x p ∷ []) (sym index) ∙ sym (made_append 0 ps p)));
      light = light_append ps p m.light k.light;
      within = k.within;
      room = omega (arith, m.room, k.longer);
      left = λ g r. k.next g (let z : n ≡ length g = e ∙ ap (λ (l : List ℕ). get_or l 0 0) r.is in omega arith) (m.left g r);
    }

-- no place stands there
pub mending_stops : (s t : List ℕ) (n i at to : ℕ) → i < n → n ≡ get_or s 0 0 → Mending s t n i at to → ((g : Game) → i < length g → weight g i < 256 → Reading s g i at → ⊥) → (g : Game) → ReadsEnds s g → ⊥
mending_stops s t n i at to h e m none g r = none g (let z : n ≡ length g = e ∙ ap (λ (l : List ℕ). get_or l 0 0) r.is in omega arith) (weight_fits r i) (m.left g r)
