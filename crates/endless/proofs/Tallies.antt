-- Counts of weights, place by place.
use Rattle.std.proofs.Common.{◌≡◌, ℕ, zero, suc, ◌+◌, ◌^◌, ◌<◌, ◌≤◌, eqb, ◌⊎◌, List, [], ◌∷◌, length, get_or, drop, set, map, replicate, sym, refl, ap, ◌∙◌, inl, inr, add-one, arith}
use Rattle.std.proofs.lemmas.List.{get_or-set_same, get_or-set_other, length-set, length-replicate, length-map, length-drop}
use Rattle.std.proofs.lemmas.Bool.{cases_eq}
use Rattle.endless.specs.Games.{Game, weight}
use Rattle.endless.specs.Bits.{count}
use Rattle.endless.specs.Weights.{weighing}
use Rattle.endless.specs.Heads.{head_of}
use Rattle.endless.specs.View.{Playable}
use Rattle.endless.specs.declared.place.HeadWords.{HeadWords}
use Rattle.endless.proofs.Places.{ok_size, weight_below}
use Rattle.endless.proofs.Heads.{Turn, turn}
use Rattle.endless.proofs.CountLaws.{one_if, one_itself, one_other, count_zero, count_suc, count_le}

-- the first i places counted by their weights
pub record Tallied (g : Game) (i : ℕ) (counts : List ℕ) : Type 0 where
  pub long : length counts ≡ 256
  pub are : (k : ℕ) → get_or counts k 0 ≡ count (λ n. eqb (weight g n) k) i

no_count : (n k : ℕ) → get_or (replicate {A = ℕ} n 0) k 0 ≡ 0
no_count zero k = refl
no_count (suc n) zero = refl
no_count (suc n) (suc k) = no_count n k

pub tallied_start : (g : Game) → Tallied g 0 (replicate 256 0)
tallied_start g = record { long = length-replicate {A = ℕ} 256 0; are = λ k. no_count 256 k ∙ sym (count_zero (λ n. eqb (weight g n) k)) }

module _ (g : Game) (i : ℕ) (counts : List ℕ) (t : Tallied g i counts) where
  pub tallied_le : (k : ℕ) → get_or counts k 0 ≤ i
  tallied_le k = let e = t.are k in omega (arith, count_le (λ n. eqb (weight g n) k) i)

  pub tallied_more : (w : ℕ) → w < 256 → w ≡ weight g i → Tallied g (i + 1) (set counts w (get_or counts w 0 + 1))
  tallied_more w h is = record { long = length-set counts w (get_or counts w 0 + 1) ∙ t.long; are = λ k. go k (cases_eq k w) }
    where
      step : (k : ℕ) → count (λ n. eqb (weight g n) k) (i + 1) ≡ one_if (eqb (weight g i) k) + count (λ n. eqb (weight g n) k) i
      step k = ap (count (λ n. eqb (weight g n) k)) (add-one i) ∙ count_suc (λ n. eqb (weight g n) k) i

      go : (k : ℕ) → (k ≡ w) ⊎ (k ≡ w → ⊥) → get_or (set counts w (get_or counts w 0 + 1)) k 0 ≡ count (λ n. eqb (weight g n) k) (i + 1)
      go k (inl e) =
          let here : get_or (set counts w (get_or counts w 0 + 1)) w 0 ≡ get_or counts w 0 + 1 = get_or-set_same counts w (get_or counts w 0 + 1) 0 (omega (arith, t.long)) in
          let was : get_or counts k 0 ≡ get_or counts w 0 = ap (λ j. get_or counts j 0) e in
          ap (λ j. get_or (set counts w (get_or counts w 0 + 1)) j 0) e ∙ here ∙ (omega (arith, one_itself (weight g i) k (omega arith), step k, t.are k))
      go k (inr d) =
          get_or-set_other counts w k (get_or counts w 0 + 1) 0 d
          ∙ (omega (arith, one_other (weight g i) k (λ e. d (omega arith)), step k, t.are k))

-- the same over the heads: these are still to come
abbrev pub Weighed : Game → List HeadWords → List ℕ → Type 0
Weighed g heads counts = (i : ℕ) × (i ≤ length g) × (heads ≡ map head_of (drop i g)) × Tallied g i counts

pub weighed_start : (g : Game) (heads : List HeadWords) → heads ≡ map head_of g → Weighed g heads (replicate 256 0)
weighed_start g heads are = (0, omega arith, are, tallied_start g)

module _ (g : Game) (heads : List HeadWords) (counts : List ℕ) (inv : Weighed g heads counts) (head : HeadWords) (rest : List HeadWords) (is : heads ≡ head ∷ rest) where
  here : Turn g inv.0 head rest
  here = turn g inv.0 head rest (sym inv.2 ∙ is)

  pub weighed_index : Playable g → head.weight < 256
  weighed_index reads = omega (arith, here.weighs, weight_below reads inv.0)

  pub weighed_fits : Playable g → get_or counts head.weight 0 + 1 < 2 ^ 32
  weighed_fits reads = omega (arith, tallied_le g inv.0 counts inv.3 head.weight, here.below, (ok_size _ g reads).1)

  pub weighed_more : Playable g → Weighed g rest (set counts head.weight (get_or counts head.weight 0 + 1))
  weighed_more reads = (inv.0 + 1, omega (arith, here.below), here.others, tallied_more g inv.0 counts inv.3 head.weight (weighed_index reads) here.weighs)

pub weighed_all : (g : Game) (counts : List ℕ) → Weighed g [] counts → (k : ℕ) → get_or counts k 0 ≡ weighing g k
weighed_all g counts t k =
    let all : t.0 ≡ length g = omega (arith, t.1, ap length t.2, length-map (drop t.0 g) head_of, length-drop t.0 g) in
    t.3.are k ∙ ap (count (λ n. eqb (weight g n) k)) all
