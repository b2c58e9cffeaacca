-- Successors are read one after the other.
use Rattle.std.proofs.Common.{◌≡◌, ℕ, zero, suc, ◌+◌, ◌<◌, ◌≤◌, cond, ltb, List, [], ◌∷◌, ◌++◌, length, Some, None, Ok, Err, Result, sym, refl, ap, ◌∙◌, arith}
use Rattle.std.proofs.lemmas.Bool.{cond-true, cond-false, lt-ltb, le-ltb}
use Rattle.pgsolver.specs.declared.refusal.Fault.TheVariants.{NoSuccessor, TooManyMoves}
use Rattle.pgsolver.specs.declared.refusal.Slip.{Slip}
use Rattle.pgsolver.specs.Form.{slip, and_then, behind, goals_on, goals_in, goals, number}
use Rattle.pgsolver.proofs.Lengths.{number_less, behind_less}

-- what is read of the successors, and what is left of the text
pub record LeftGoals (used : ℕ) (text own rest : List ℕ) : Type 0 where
  pub fuel : ℕ
  pub enough : length rest < fuel
  pub same : goals_in fuel used own rest ≡ goals used text

pub goals_first : (used : ℕ) (text own : List ℕ) → own ≡ [] → LeftGoals used text own text
unfolding goals
goals_first used text own e = record { fuel = suc (length text); enough = omega arith; same = ap (λ l. goals_in (suc (length text)) used l text) e }

module _ (used : ℕ) (text own rest : List ℕ) (s : LeftGoals used text own rest) where
  -- one more fuel than what is left
  abbrev Spent : Type 0
  Spent = (n : ℕ) × (s.fuel ≡ suc n)

  spend : Spent
  spend = at s.fuel refl
    where
      at : (m : ℕ) → s.fuel ≡ m → Spent
      at zero e = absurd (omega (arith, s.enough))
      at (suc m) e = (m, e)

  abbrev after_number : ℕ → ℕ × List ℕ → Result (List ℕ × List ℕ) Slip
  after_number n p = cond (ltb (used + length own) 64000) (goals_on (λ rest. goals_in n used (own ++ (p.0 ∷ [])) rest) (own ++ (p.0 ∷ [])) p.1 (behind (44 ∷ []) p.1)) (Err (slip TooManyMoves p.1))

  opened : goals used text ≡ and_then (number NoSuccessor rest) (after_number spend.0)
  unfolding goals_in
  opened = sym s.same ∙ ap (λ m. goals_in m used own rest) spend.1

  pub goals_slip : (e : Slip) → number NoSuccessor rest ≡ Err e → goals used text ≡ Err e
  goals_slip e h = opened ∙ ap (λ x. and_then x (after_number spend.0)) h

  module _ (n : ℕ) (after : List ℕ) (h : number NoSuccessor rest ≡ Ok (n, after)) where
    pub goals_many : 64000 ≤ used + length own → goals used text ≡ Err (slip TooManyMoves after)
    goals_many l = opened ∙ ap (λ x. and_then x (after_number spend.0)) h ∙ cond-false _ _ _ (le-ltb (used + length own) 64000 l)

    module _ (few : used + length own < 64000) (longer : List ℕ) (more : longer ≡ own ++ (n ∷ [])) where
      going : goals used text ≡ goals_on (λ rest. goals_in spend.0 used (own ++ (n ∷ [])) rest) (own ++ (n ∷ [])) after (behind (44 ∷ []) after)
      going = opened ∙ ap (λ x. and_then x (after_number spend.0)) h ∙ cond-true _ _ _ (lt-ltb (used + length own) 64000 few)

      pub goals_last : behind (44 ∷ []) after ≡ None → goals used text ≡ Ok (longer, after)
      goals_last b = going ∙ ap (goals_on (λ rest. goals_in spend.0 used (own ++ (n ∷ [])) rest) (own ++ (n ∷ [])) after) b ∙ ap (λ l. Ok (l, after)) (sym more)

      pub goals_more : (next : List ℕ) → behind (44 ∷ []) after ≡ Some next → LeftGoals used text longer next
      goals_more next b =
          let fewer : length next < length rest = omega (arith, number_less NoSuccessor rest n after h, behind_less 44 after next b) in
          record {
            fuel = spend.0;
            enough = omega (arith, fewer, s.enough, spend.1);
            same = ap (λ l. goals_in spend.0 used l next) more ∙ sym (going ∙ ap (goals_on (λ rest. goals_in spend.0 used (own ++ (n ∷ [])) rest) (own ++ (n ∷ [])) after) b);
          }

    pub goals_less : (next : List ℕ) → behind (44 ∷ []) after ≡ Some next → length next < length rest
    goals_less next b = omega (arith, number_less NoSuccessor rest n after h, behind_less 44 after next b)
