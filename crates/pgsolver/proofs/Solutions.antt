-- What is read of an answer, for a line of a solution.
use Rattle.std.proofs.Common.{◌≡◌, ℕ, ◌*◌, ◌<◌, ◌≤◌, ◌==◌, List, length, get_or, Some, None, Option, sym, ap, ◌∙◌}
use Rattle.std.proofs.lemmas.List.{get_or-map}
use Rattle.std.specs.List.{slice_get}
use Rattle.std.specs.Option.{option_map}
use Rattle.std.proofs.lemmas.Bool.{cond-true, eq-eqb}
use Rattle.std.proofs.lemmas.Option.{slice_get-map, slice_get_past, slice_get-get_or}
use Rattle.endless.proofs.Nth.{nth_in}
use Rattle.endless.specs.declared.answer.PlaceId.{PlaceId}
use Rattle.endless.specs.Answers.{PlanIs}
use Rattle.endless.specs.Games.{Game, opt, whose}
use Rattle.endless.specs.Says.{side}
use Rattle.pgsolver.specs.declared.Named.{Named}
use Rattle.pgsolver.specs.Ids.{ids_of}
use Rattle.pgsolver.specs.Solutions.{winners_move, line_of, line}

-- the word that stands there
pub side_at : (o : List ℕ) (n : ℕ) → 2 * n < length o → side o n ≡ get_or o (2 * n) 0
side_at o n h = ap (λ x. opt x 2 (λ y. y)) (nth_in o (2 * n) 0 h)

module _ (places : List Named) (g : Game) (o : List ℕ) (n : ℕ) (m : PlaceId) (moves : whose g n ≡ side o n) (to : PlanIs o n (Some m)) where
  -- the id where the plan goes
  move_is : winners_move (ids_of places) g o n ≡ option_map (λ p. p.id) (slice_get places m.0)
  move_is =
      cond-true (whose g n == side o n) _ _ (eq-eqb _ _ moves)
      ∙ ap (λ x. slice_get (ids_of places) (opt x 0 (λ y. y))) to
      ∙ slice_get-map (λ p. p.id) places m.0

  pub move_at : (p : Named) → m.0 < length places → p ≡ get_or places m.0 p → Some p.id ≡ winners_move (ids_of places) g o n
  move_at p h is = sym (move_is ∙ ap (λ x. option_map (λ p. p.id) x) (slice_get-get_or places m.0 p h ∙ ap Some (sym is)))

  pub no_move : length places ≤ m.0 → None ≡ winners_move (ids_of places) g o n
  no_move h = sym (move_is ∙ ap (λ x. option_map (λ p. p.id) x) (slice_get_past places m.0 h))

-- what is written of place n is its line
pub line_is : (places : List Named) (g : Game) (o : List ℕ) (n : ℕ) (d : Named) (r : Option ℕ) → n < length places → 2 * n < length o → r ≡ winners_move (ids_of places) g o n → line_of (get_or places n d).id (get_or o (2 * n) 0) r ≡ line (ids_of places) g o n
line_is places g o n d r inside told e =
    ap (λ x. line_of x (get_or o (2 * n) 0) r) (sym (get_or-map (λ p. p.id) places n d 0 inside))
    ∙ ap (λ x. line_of (get_or (ids_of places) n 0) x r) (sym (side_at o n told))
    ∙ ap (λ x. line_of (get_or (ids_of places) n 0) (side o n) x) e
