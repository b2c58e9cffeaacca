-- The heads of places whose words stand one after the other.
use Rattle.std.proofs.Common.{◌≡◌, ℕ, suc, ◌+◌, ◌-◌, ◌<◌, ◌≤◌, ◌⊎◌, List, [], ◌∷◌, length, get_or, drop, Some, None, Option, map, sym, refl, ap, ◌∙◌, subst, ap₂, inl, inr, add-one, arith}
use Rattle.std.proofs.lemmas.List.{drop_all, drop_at, drop-drop, length-append}
use Rattle.std.proofs.lemmas.Bool.{cases_lt}
use Rattle.std.specs.Option.{IsSome}
use Rattle.endless.specs.Games.{Place, Game, opt, row, whose, weight}
use Rattle.endless.specs.Graph.{moves}
use Rattle.endless.specs.Heads.{Begins, HeadIs, Rows, head_of, heads_in}
use Rattle.endless.specs.Sides.{number}
use Rattle.endless.specs.View.{Playable}
use Rattle.endless.specs.declared.place.Head.{Head}
use Rattle.endless.specs.declared.place.HeadWords.{HeadWords}
use Rattle.endless.proofs.Places.{side_below, weight_below, some_moves}
use Rattle.endless.proofs.Reading.{there, front_owner, front_weighs, front_many}
use Rattle.endless.proofs.View.{places_in_row}

-- the heads of places are those that their words begin with
pub heads_are : (n : ℕ) (s : List ℕ) (ps : List Place) → length ps ≡ n → s ≡ row ps → heads_in n s ≡ map head_of ps
heads_are n s ps e is = ap₂ (λ k l. heads_in k l) (sym e) is ∙ ap (map head_of) (places_in_row ps)

-- the words of one place or more begin with its head
pub rows_long : (n : ℕ) (s : List ℕ) → 0 < n → Rows n s → 3 ≤ length s
rows_long n s h ([], e, is) = absurd (omega arith)
rows_long n s h (p ∷ ps, e, is) = omega (arith, ap length is)

-- and what stands behind it are those of the others
pub record First (n : ℕ) (s : List ℕ) (head : HeadWords) : Type 0 where
  pub long : 3 + head.moves ≤ length s
  pub others : Rows (n - 1) (drop (3 + head.moves) s)
  pub is : heads_in n s ≡ head ∷ heads_in (n - 1) (drop (3 + head.moves) s)

pub first : (n : ℕ) (s : List ℕ) (head : HeadWords) → 0 < n → Rows n s → head.whose ≡ get_or s 0 0 → head.weight ≡ get_or s 1 0 → head.moves ≡ get_or s 2 0 → First n s head
first n s head h ([], e, is) w k m = absurd (omega arith)
first n s head h (p ∷ ps, e, is) w k m =
    let rest : drop (3 + length p.moves) s ≡ row ps = sym (drop-drop (length p.moves) 3 s) ∙ ap (λ l. drop (length p.moves) (drop 3 l)) is ∙ drop_at p.moves (row ps) (length p.moves) refl in
    let many : length ps ≡ n - 1 = omega arith in
    let whose = w ∙ ap (λ l. get_or l 0 0) is in
    let weight = k ∙ ap (λ l. get_or l 1 0) is in
    let moves = m ∙ ap (λ l. get_or l 2 0) is in
    let same : head_of p ≡ head = sym (λ i. record { whose = whose i; weight = weight i; moves = moves i }) in
    subst (First n s) same record {
      long = omega (arith, ap length is, length-append p.moves (row ps));
      others = (ps, many, rest);
      is = heads_are n s (p ∷ ps) e is ∙ ap (λ l. head_of p ∷ l) (sym (heads_are (n - 1) (drop (3 + length p.moves) s) ps many rest));
    }

-- one turn of a loop over the heads of a game, from the i-th on
pub record Turn (g : Game) (i : ℕ) (head : HeadWords) (rest : List HeadWords) : Type 0 where
  pub below : i < length g
  pub weighs : head.weight ≡ weight g i
  pub many : head.moves ≡ length (moves g i)
  pub others : rest ≡ map head_of (drop (i + 1) g)

pub turn : (g : Game) (i : ℕ) (head : HeadWords) (rest : List HeadWords) → map head_of (drop i g) ≡ head ∷ rest → Turn g i head rest
turn g i head rest e = go (cases_lt i (length g))
  where
    go : (i < length g) ⊎ (length g ≤ i) → Turn g i head rest
    go (inl h) =
        let t = there g i h in
        let is : head_of t.p ∷ map head_of (drop (suc i) g) ≡ head ∷ rest = sym (ap (map head_of) t.rest) ∙ e in
        record {
          below = h;
          weighs = (let w : t.p.weight ≡ head.weight = cc is in sym w) ∙ sym (ap (λ o. opt o 0 (λ p. p.weight)) t.is);
          many = (let m : length t.p.moves ≡ head.moves = cc is in sym m) ∙ sym (ap (λ o. length (opt o [] (λ p. p.moves))) t.is);
          others = (let r : map head_of (drop (suc i) g) ≡ rest = cc is in sym r) ∙ ap (λ k. map head_of (drop k g)) (sym (add-one i));
        }
    go (inr h) = absurd (omega (arith, ap length (sym (ap (map head_of) (drop_all i g h)) ∙ e)))

pub heads_none : (n : ℕ) (s : List ℕ) → Rows n s → n ≡ 0 → heads_in n s ≡ []
heads_none n s ([], e, is) z = heads_are n s [] e is
heads_none n s (p ∷ ps, e, is) z = absurd (omega arith)

-- the words from a place on begin with its head, and with no other
module _ (g : Game) (n : ℕ) (h : n < length g) {s : List ℕ} (is : s ≡ row (drop n g)) where
  pub head_there : Playable g → (o : Option Head) → HeadIs s o → IsSome o
  head_there reads None none =
      let t = there g n h in
      absurd (none _ _ _ _ (is ∙ ap row t.rest)
      (omega (arith, ap (λ o. opt o 0 (λ p. p.whose)) t.is, side_below reads n))
      (omega (arith, ap (λ o. opt o 0 (λ p. p.weight)) t.is, weight_below reads n))
      (omega (arith, ap (λ o. length (opt o [] (λ p. p.moves))) t.is, some_moves reads n h)))
  head_there reads (Some head) b = refl

  pub head_is : (head : Head) → Begins s head → (number head.whose ≡ whose g n) × (head.weight ≡ weight g n) × (head.moves ≡ length (moves g n))
  head_is head b =
      let words = sym b.is ∙ is in
      (ap (λ l. get_or l 0 0) words ∙ front_owner g n h, ap (λ l. get_or l 1 0) words ∙ front_weighs g n h, ap (λ l. get_or l 2 0) words ∙ front_many g n h)
