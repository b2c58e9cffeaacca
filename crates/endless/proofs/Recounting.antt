-- Numbers of moves that are counted anew, one place of a list after the other.
use Rattle.std.proofs.Common.{◌≡◌, ℕ, ◌+◌, ◌<◌, ◌≤◌, ◌⊎◌, List, None, length, get_or, set, sym, refl, ap, ◌∙◌, subst, inl, inr, arith}
use Rattle.std.proofs.lemmas.List.{get_or-set_same, get_or-set_other}
use Rattle.std.proofs.lemmas.Bool.{cases_eq, cases_lt}
use Rattle.endless.specs.Games.{Game}
use Rattle.endless.specs.Sets.{Set}
use Rattle.endless.specs.Graph.{moves}
use Rattle.endless.specs.Ways.{ways, Recounted, RecountedAt}
use Rattle.endless.specs.Bits.{members}
use Rattle.endless.specs.Parts.{Told, Part}
use Rattle.endless.proofs.Tests.{true_T}
use Rattle.endless.proofs.SetLaws.{size_some}

-- all of a set is a part of it, told by no list
pub whole_part : (own : List ℕ) → Part own None (members own)
whole_part own = record {
  within = λ n x. x;
  some_place = λ h. let t = size_some own h in (t.0, true_T _ t.1);
  whole = λ e n x. x;
  told = λ l e. absurd (cc);
}

pub recounted_none : (g : Game) (U : Set) (list escapes : List ℕ) → RecountedAt g U list 0 escapes escapes
recounted_none g U list escapes = record { counted = λ j h. absurd (omega arith); rest = λ n d. refl }

module _ {g : Game} {U : Set} {list : List ℕ} {i : ℕ} {escapes escapes₁ : List ℕ} (so_far : RecountedAt g U list i escapes escapes₁) where
  -- one place more
  pub recounted_more : (place : ℕ) → get_or list i 0 ≡ place → place < length escapes₁ → RecountedAt g U list (i + 1) escapes (set escapes₁ place (ways U (moves g place)))
  recounted_more place is room = record {
    counted = λ j h. counted j h (cases_eq (get_or list j 0) place);
    rest = λ n d. get_or-set_other escapes₁ place n count 0 (λ e. d i (omega arith) (is ∙ sym e)) ∙ so_far.rest n (λ j h. d j (omega arith));
  }
    where
      count : ℕ
      count = ways U (moves g place)

      counted : (j : ℕ) → j < i + 1 → (get_or list j 0 ≡ place) ⊎ (get_or list j 0 ≡ place → ⊥) → get_or (set escapes₁ place count) (get_or list j 0) 0 ≡ ways U (moves g (get_or list j 0))
      counted j h (inl e) = subst (λ (n : ℕ). get_or (set escapes₁ place count) n 0 ≡ ways U (moves g n)) (sym e) (get_or-set_same escapes₁ place count 0 room)
      counted j h (inr d) = get_or-set_other escapes₁ place (get_or list j 0) count 0 d ∙ so_far.counted j (earlier (cases_lt j i))
        where
          earlier : (j < i) ⊎ (i ≤ j) → j < i
          earlier (inl l) = l
          earlier (inr l) = let e : j ≡ i = omega arith in absurd (d (ap (λ (k : ℕ). get_or list k 0) e ∙ is))

  -- after the last, of a list that tells a set
  pub recounted_all : (R : Set) → i ≡ length list → Told list R → Recounted g U R escapes escapes₁
  recounted_all R end told = record {
    counted = λ n x. let t = (told n).0 x in subst (λ (k : ℕ). get_or escapes₁ k 0 ≡ ways U (moves g k)) t.2 (so_far.counted t.0 (omega (arith, t.1)));
    rest = λ n o. so_far.rest n (λ j h e. o ((told n).1 (j, omega arith, e)));
  }
