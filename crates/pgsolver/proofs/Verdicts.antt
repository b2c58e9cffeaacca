-- What a solution says is read one by one.
use Rattle.std.proofs.Common.{◌≡◌, ℕ, zero, suc, ◌<◌, ◌≤◌, Bool, true, false, cond, List, [], ◌∷◌, ◌++◌, length, Some, None, Ok, Err, Option, Result, sym, refl, ap, ◌∙◌, arith}
use Rattle.std.specs.Char.{is_ascii_digit}
use Rattle.pgsolver.specs.declared.refusal.Fault.TheVariants.{Number}
use Rattle.pgsolver.specs.declared.refusal.Slip.{Slip}
use Rattle.pgsolver.specs.declared.verdict.Verdict.{Verdict}
use Rattle.pgsolver.specs.Form.{skip, and_then, digits, number, owner, tail}
use Rattle.pgsolver.specs.Verdicts.{goal_in, goal, verdict, verdicts_on, verdicts_in, verdicts}
use Rattle.pgsolver.proofs.Lengths.{skip_le, ok_is, digits_le, number_less, owner_less, tail_le, then_ok}

goal_in_le : (bs : List ℕ) (g : Option ℕ) (r : List ℕ) → goal_in bs ≡ Ok (g, r) → length r ≤ length bs
goal_in_le [] g r h = let q : [] ≡ r = ap (λ p. p.1) (ok_is h) in omega (arith, ap length q)
goal_in_le (b ∷ bs) g r h = at (is_ascii_digit b) h
  where
    at : (t : Bool) → cond t (and_then {A = ℕ × List ℕ} {B = Option ℕ × List ℕ} (digits 0 (b ∷ bs)) (λ p. Ok (Some p.0, p.1))) (Ok (None, b ∷ bs)) ≡ Ok (g, r) → length r ≤ suc (length bs)
    at true k =
        let p = then_ok {B = Option ℕ × List ℕ} (digits 0 (b ∷ bs)) (λ p. Ok (Some p.0, p.1)) (g, r) k in
        let q : p.0.1 ≡ r = ap (λ p. p.1) (ok_is p.2) in
        omega (arith, digits_le 0 (b ∷ bs) p.0.0 p.0.1 p.1, ap length q)
    at false k = let q : b ∷ bs ≡ r = ap (λ p. p.1) (ok_is k) in omega (arith, ap length q)

verdict_less : (bs : List ℕ) (v : Verdict) (r : List ℕ) → verdict bs ≡ Ok (v, r) → length r < length bs
verdict_less bs v r h =
    let i = then_ok (number Number bs) _ _ h in
    let w = then_ok (owner i.0.1) _ _ i.2 in
    let g = then_ok (goal w.0.1) _ _ w.2 in
    let t = then_ok (tail g.0.1) _ _ g.2 in
    let q : t.0.1 ≡ r = ap (λ p. p.1) (ok_is t.2) in
    omega (arith, number_less Number bs i.0.0 i.0.1 i.1, owner_less i.0.1 w.0.0 w.0.1 w.1, skip_le w.0.1, goal_in_le (skip w.0.1) g.0.0 g.0.1 g.1, tail_le g.0.1 t.0.0 t.0.1 t.1, ap length q)

-- what is read so far, and what is left of the text
pub record LeftVerdicts (text : List ℕ) (read : List Verdict) (rest : List ℕ) : Type 0 where
  pub fuel : ℕ
  pub enough : length rest < fuel
  pub same : verdicts_in fuel read rest ≡ verdicts text

pub verdicts_first : (text : List ℕ) (read : List Verdict) → read ≡ [] → LeftVerdicts text read text
unfolding verdicts
verdicts_first text read e = record {
  fuel = suc (length text);
  enough = omega arith;
  same = ap (λ l. verdicts_in (suc (length text)) l text) e;
}

on_none : (more : List ℕ → Result (List Verdict) Slip) (acc : List Verdict) (bs : List ℕ) → length bs ≡ 0 → verdicts_on more acc bs ≡ Ok acc
on_none more acc [] h = refl
on_none more acc (b ∷ bs) h = absurd (omega arith)

on_some : (more : List ℕ → Result (List Verdict) Slip) (acc : List Verdict) (bs : List ℕ) → (length bs ≡ 0 → ⊥) → verdicts_on more acc bs ≡ more bs
on_some more acc [] h = absurd (h refl)
on_some more acc (b ∷ bs) h = refl

module _ (text : List ℕ) (read : List Verdict) (rest : List ℕ) (s : LeftVerdicts text read rest) (here : List ℕ) (at : here ≡ skip rest) where
  abbrev Spent : Type 0
  Spent = (m : ℕ) × (s.fuel ≡ suc m)

  spend : Spent
  spend = from s.fuel refl
    where
      from : (m : ℕ) → s.fuel ≡ m → Spent
      from zero e = absurd (omega (arith, s.enough))
      from (suc m) e = (m, e)

  abbrev onward : List ℕ → Result (List Verdict) Slip
  onward here = and_then (verdict here) (λ p. verdicts_in spend.0 (read ++ (p.0 ∷ [])) p.1)

  opened : verdicts text ≡ verdicts_on onward read here
  unfolding verdicts_in
  opened = sym s.same ∙ ap (λ m. verdicts_in m read rest) spend.1 ∙ ap (verdicts_on onward read) (sym at)

  pub verdicts_all : length here ≡ 0 → verdicts text ≡ Ok read
  verdicts_all h = opened ∙ on_none onward read here h

  module _ (some : length here ≡ 0 → ⊥) where
    going : verdicts text ≡ onward here
    going = opened ∙ on_some onward read here some

    pub verdicts_slip : (e : Slip) → verdict here ≡ Err e → verdicts text ≡ Err e
    verdicts_slip e h = going ∙ ap (λ x. and_then x (λ p. verdicts_in spend.0 (read ++ (p.0 ∷ [])) p.1)) h

    module _ (v : Verdict) (next : List ℕ) (h : verdict here ≡ Ok (v, next)) where
      pub verdicts_less : length next < length rest
      verdicts_less = omega (arith, verdict_less here v next h, ap length at, skip_le rest)

      pub verdicts_more : (longer : List Verdict) → longer ≡ read ++ (v ∷ []) → LeftVerdicts text longer next
      verdicts_more longer more = record {
        fuel = spend.0;
        enough = omega (arith, verdicts_less, s.enough, spend.1);
        same = ap (λ l. verdicts_in spend.0 l next) more ∙ sym (going ∙ ap (λ x. and_then x (λ p. verdicts_in spend.0 (read ++ (p.0 ∷ [])) p.1)) h);
      }
