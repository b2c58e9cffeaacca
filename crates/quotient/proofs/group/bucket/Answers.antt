use Rattle.std.proofs.Common.{◌≡◌, ℕ, refl, ap, ◌∙◌}
use Rattle.endless.specs.Graph.{moves}
use Rattle.quotient.specs.Refining.{part, scattered, greatest}
use Rattle.quotient.proofs.Within.{move_place, part_small}
use Rattle.quotient.proofs.group.bucket.Goals as goal

pub greatest-first-requires-clause-places : goal.greatest-first-requires-clause-places
greatest-first-requires-clause-places c = move_place c.requires.parted.1 c.args.place c.moves-moves.ensures.moves

pub greatest-first-requires-clause-low : goal.greatest-first-requires-clause-low
greatest-first-requires-clause-low c = part_small c.requires.parted.1 c.args.place c.moves-moves.ensures.moves

pub greatest-second-requires-clause-places : goal.greatest-second-requires-clause-places
greatest-second-requires-clause-places c = move_place c.requires.parted.1 c.args.place c.moves-moves.ensures.moves

pub greatest-second-requires-clause-low : goal.greatest-second-requires-clause-low
greatest-second-requires-clause-low c = part_small c.requires.parted.1 c.args.place c.moves-moves.ensures.moves

pub greatest-third-requires-clause-places : goal.greatest-third-requires-clause-places
greatest-third-requires-clause-places c = move_place c.requires.parted.1 c.args.place c.moves-moves.ensures.moves

pub greatest-third-requires-clause-low : goal.greatest-third-requires-clause-low
greatest-third-requires-clause-low c = part_small c.requires.parted.1 c.args.place c.moves-moves.ensures.moves

pub returns-clause-is : goal.returns-clause-is
returns-clause-is c = rw (c.greatest-first.ensures ∙ over 40503, c.greatest-second.ensures ∙ over 30011, c.greatest-third.ensures ∙ over 12289, c.weight-weight.ensures.weight) refl
  where
    over : (factor : ℕ) → greatest (λ m. scattered factor (part c.args.parts.now m)) c.moves-moves.result.now ≡ greatest (λ m. scattered factor (part c.args.parts.now m)) (moves c.args.places.now c.args.place)
    over = λ factor. ap (greatest (λ m. scattered factor (part c.args.parts.now m))) c.moves-moves.ensures.moves
