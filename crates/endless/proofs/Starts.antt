-- Where the places' words start, found one after the other.
use Rattle.std.proofs.Common.{◌≡◌, ℕ, ◌+◌, ◌<◌, ◌≤◌, ◌⊎◌, List, [], ◌∷◌, length, get_or, map, drop, set, sym, ap, ◌∙◌, subst, inl, inr, arith}
use Rattle.std.proofs.lemmas.List.{get_or-set_same, get_or-set_other, length-map, length-drop}
use Rattle.std.proofs.lemmas.Bool.{cases_eq}
use Rattle.endless.specs.Games.{Game}
use Rattle.endless.specs.Graph.{Reading, Placed}
use Rattle.endless.specs.View.{words_of}
use Rattle.endless.specs.Heads.{head_of}
use Rattle.endless.specs.declared.place.HeadWords.{HeadWords}
use Rattle.endless.proofs.Heads.{Turn, turn}
use Rattle.endless.proofs.Reading.{reading_next}

-- the starts of the first i places of a game: these heads are still to come
pub record Starting (g : Game) (heads : List HeadWords) (starts : List ℕ) (i at : ℕ) : Type 0 where
  pub most : i ≤ length g
  pub left : heads ≡ map head_of (drop i g)
  pub here : Reading (words_of g) g i at
  pub found : (j : ℕ) → j < i → Reading (words_of g) g j (get_or starts j 0)

module _ (g : Game) (heads : List HeadWords) (starts : List ℕ) (i at : ℕ) (inv : Starting g heads starts i at) (head : HeadWords) (rest : List HeadWords) (is : heads ≡ head ∷ rest) where
  this : Turn g i head rest
  this = turn g i head rest (sym inv.left ∙ is)

  pub starting_index : i < length g
  starting_index = this.below

  next : Reading (words_of g) g (i + 1) (at + (3 + head.moves))
  next = subst (λ n. Reading (words_of g) g (i + 1) (at + (3 + n))) (sym this.many) (reading_next (words_of g) g i at this.below inv.here)

  pub starting_more : (k n : ℕ) (after : List ℕ) → length starts ≡ length g → k ≡ i → n ≡ i + 1 → after ≡ set starts k at → Starting g rest after n (at + (3 + head.moves))
  starting_more k n after long same up e = record {
    most = omega (arith, this.below);
    left = this.others ∙ ap (λ m. map head_of (drop m g)) (sym up);
    here = subst (λ m. Reading (words_of g) g m (at + (3 + head.moves))) (sym up) next;
    found = λ j h. subst (λ l. Reading (words_of g) g j (get_or l j 0)) (sym (e ∙ ap (λ m. set starts m at) same)) (go j (omega arith) (cases_eq j i));
  }
    where
      go : (j : ℕ) → j < i + 1 → (j ≡ i) ⊎ (j ≡ i → ⊥) → Reading (words_of g) g j (get_or (set starts i at) j 0)
      go j h (inl d) =
          subst (λ k. Reading (words_of g) g k (get_or (set starts i at) k 0)) (sym d)
          (subst (Reading (words_of g) g i) (sym (get_or-set_same starts i at 0 (omega (arith, starting_index)))) inv.here)
      go j h (inr d) = subst (Reading (words_of g) g j) (sym (get_or-set_other starts i j at 0 d)) (inv.found j (omega arith))

pub starting_all : (g : Game) (starts : List ℕ) (i at : ℕ) → Starting g [] starts i at → length starts ≡ length g → Placed g starts
starting_all g starts i at t long =
    let all : i ≡ length g = omega (arith, t.most, ap length t.left, length-map (drop i g) head_of, length-drop i g) in
    record { long = long; at = λ j h. t.found j (omega arith) }
