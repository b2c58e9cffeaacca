-- The moves of the winner's plan.
use Rattle.std.proofs.Common.{◌≡◌, ℕ, ◌+◌, ◌*◌, Bool, false, ◌&&◌, eqb, List, Some, None, Option, sym, ap, ◌∙◌}
use Rattle.std.specs.Option.{option_eq}
use Rattle.std.proofs.lemmas.Bool.{eq-eqb}
use Rattle.endless.specs.Games.{Game, nth, opt, whose}
use Rattle.endless.specs.Says.{side}
use Rattle.endless.specs.Answers.{PlanIs}
use Rattle.endless.specs.declared.answer.PlaceId.{PlaceId}
use Rattle.endless.proofs.Nth.{nth_out}
use Rattle.dot.specs.Pictures.{planned}

module _ (E : PlaceId → PlaceId → Bool) (same : (x y : PlaceId) → E x y ≡ eqb x.0 y.0) where
  goes_there : (o : List ℕ) (n m : ℕ) (r : Option PlaceId) → PlanIs o n r → option_eq E r (Some (record { 0 = m })) ≡ opt (nth o (2 * n + 1)) false (λ to. eqb to m)
  goes_there o n m None h = sym (ap (λ t. opt t false (λ to. eqb to m)) (nth_out o (2 * n + 1) h))
  goes_there o n m (Some x) h = same x (record { 0 = m }) ∙ sym (ap (λ t. opt t false (λ to. eqb to m)) h)

  -- where the winner is to move, a move is planned if the plan goes there
  pub planned_here : (g : Game) (o : List ℕ) (n m : ℕ) (t : Bool) (r : Option PlaceId) → whose g n ≡ side o n → PlanIs o n r → t ≡ option_eq E r (Some (record { 0 = m })) → t ≡ planned g o n m
  planned_here g o n m t r w h e = e ∙ goes_there o n m r h ∙ sym (ap (λ b. b && opt (nth o (2 * n + 1)) false (λ to. eqb to m)) (eq-eqb (whose g n) (side o n) w))
