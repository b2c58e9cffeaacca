-- Reading the words of a game from the front: past i places, what is left are the words of the other places.
use Rattle.std.proofs.Common.{◌≡◌, ℕ, zero, suc, ◌+◌, ◌<◌, ◌≤◌, List, [], ◌∷◌, ◌++◌, length, get_or, drop, sym, refl, ap, ◌∙◌, add-one, arith}
use mathlib.Core.Option.{some}
use Rattle.std.proofs.lemmas.List.{drop-drop, drop_at, length-drop, length-append}
use Rattle.endless.specs.Games.{Place, Game, nth, opt, row, whose, weight}
use Rattle.endless.specs.Graph.{moves, Reading}

-- ---- the place at i

pub record There (g : Game) (i : ℕ) : Type 0 where
  pub p : Place
  pub is : nth g i ≡ some p
  pub rest : drop i g ≡ p ∷ drop (suc i) g

pub there : (g : Game) (i : ℕ) → i < length g → There g i
there [] i h = absurd (omega arith)
there (p ∷ ps) zero h = record { p = p; is = refl; rest = refl }
there (p ∷ ps) (suc i) h = let t = there ps i (omega arith) in record { p = t.p; is = t.is; rest = t.rest }

-- ---- i places read, up to the word at `at`

pub reading_next : (s : List ℕ) (g : Game) (i at : ℕ) → i < length g → Reading s g i at → Reading s g (i + 1) (at + (3 + length (moves g i)))
reading_next s g i at h r = build (there g i h)
  where
    build : There g i → Reading s g (i + 1) (at + (3 + length (moves g i)))
    build t =
        let words : drop at s ≡ t.p.whose ∷ t.p.weight ∷ length t.p.moves ∷ (t.p.moves ++ row (drop (suc i) g)) = r.left ∙ ap row t.rest in
        let behind : drop (at + 3) s ≡ t.p.moves ++ row (drop (suc i) g) = sym (drop-drop 3 at s) ∙ ap (drop 3) words in
        let many : length (moves g i) ≡ length t.p.moves = ap (λ o. length (opt o [] (λ p. p.moves))) t.is in
        let long : length (drop at s) ≡ suc (suc (suc (length (t.p.moves ++ row (drop (suc i) g))))) = ap length words in
        record {
          left = ap (λ n. drop n s) (let e : at + (3 + length (moves g i)) ≡ (at + 3) + length t.p.moves = omega arith in e)
              ∙ sym (drop-drop (length t.p.moves) (at + 3) s) ∙ ap (drop (length t.p.moves)) behind
              ∙ drop_at t.p.moves (row (drop (suc i) g)) (length t.p.moves) refl ∙ ap (λ n. row (drop n g)) (sym (add-one i));
          bound = omega (arith, length-drop at s, length-append t.p.moves (row (drop (suc i) g)), r.bound);
        }

-- ---- the words from a place on

module _ (g : Game) (n : ℕ) (h : n < length g) where
  pub front_owner : get_or (row (drop n g)) 0 0 ≡ whose g n
  front_owner = let t = there g n h in ap (λ l. get_or (row l) 0 0) t.rest ∙ sym (ap (λ o. opt o 0 (λ p. p.whose)) t.is)

  pub front_weighs : get_or (row (drop n g)) 1 0 ≡ weight g n
  front_weighs = let t = there g n h in ap (λ l. get_or (row l) 1 0) t.rest ∙ sym (ap (λ o. opt o 0 (λ p. p.weight)) t.is)

  pub front_many : get_or (row (drop n g)) 2 0 ≡ length (moves g n)
  front_many = let t = there g n h in ap (λ l. get_or (row l) 2 0) t.rest ∙ sym (ap (λ o. length (opt o [] (λ p. p.moves))) t.is)

  pub front_long : 3 ≤ length (row (drop n g))
  front_long = let t = there g n h in omega (arith, ap (λ l. length (row l)) t.rest)

  pub front_place : (p : Place) × (ps : List Place) × (row (drop n g) ≡ row (p ∷ ps)) × (moves g n ≡ p.moves)
  front_place = let t = there g n h in (t.p, drop (suc n) g, ap row t.rest, ap (λ o. opt o [] (λ p. p.moves)) t.is)
