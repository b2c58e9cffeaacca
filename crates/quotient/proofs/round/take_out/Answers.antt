use Rattle.std.proofs.Common.{sym, ◌∙◌, arith}
use Rattle.quotient.proofs.Takings.{from_inside, some_left, few_out, taking_none, taking_had, taking_new, taking_all}
use Rattle.quotient.proofs.round.take_out.Goals as goal
use Rattle.quotient.proofs.round.take_out.Goals.{then-not-has, else-not-has}

pub loop-from-init : goal.loop-from-init
loop-from-init c = taking_none _ c.requires.taken

pub has-requires : goal.has-requires
has-requires c = omega (arith, from_inside c.preds-froms.ensures.preds c.loop-from.from-index c.loop-from-test.true, c.requires.out, c.loop-from.auto.out)

pub insert-requires : goal.insert-requires
insert-requires c = omega (arith, from_inside c.preds-froms.ensures.preds c.loop-from.from-index c.loop-from-test.true, c.requires.out, c.loop-from.auto.out)

pub bounds-parts-from : goal.bounds-parts-from
bounds-parts-from c = omega (arith, from_inside c.preds-froms.ensures.preds c.loop-from.from-index c.loop-from-test.true, c.requires.parts)

pub bounds-sizes-parts : goal.bounds-sizes-parts
bounds-sizes-parts c = omega (arith, c.requires.below _ (from_inside c.preds-froms.ensures.preds c.loop-from.from-index c.loop-from-test.true), c.loop-from.auto.sizes)

pub overflow_sub-sizes : goal.overflow_sub-sizes
overflow_sub-sizes c = omega (arith, some_left c.loop-from.invariant.taken _ (from_inside c.preds-froms.ensures.preds c.loop-from.from-index c.loop-from-test.true) (sym c.has.ensures ∙ c.if-not-has.true))

pub bounds-sizes-parts-then-not-has : goal.bounds-sizes-parts-then-not-has
bounds-sizes-parts-then-not-has c = omega (arith, c.requires.below _ (from_inside c.preds-froms.ensures.preds c.loop-from.from-index c.loop-from-test.true), c.loop-from.auto.sizes)

pub offset_bounds-list-many : goal.offset_bounds-list-many
offset_bounds-list-many c = omega (arith, few_out c.loop-from.invariant.taken _ (from_inside c.preds-froms.ensures.preds c.loop-from.from-index c.loop-from-test.true) (sym c.has.ensures ∙ c.if-not-has.true) c.insert.ensures, c.requires.list, c.loop-from.auto.list)

pub bounds-list-many : goal.bounds-list-many
bounds-list-many c = omega (arith, few_out c.loop-from.invariant.taken _ (from_inside c.preds-froms.ensures.preds c.loop-from.from-index c.loop-from-test.true) (sym c.has.ensures ∙ c.if-not-has.true) c.insert.ensures, c.requires.list, c.loop-from.auto.list)

pub overflow_add-many : goal.overflow_add-many
overflow_add-many c = omega (arith, few_out c.loop-from.invariant.taken _ (from_inside c.preds-froms.ensures.preds c.loop-from.from-index c.loop-from-test.true) (sym c.has.ensures ∙ c.if-not-has.true) c.insert.ensures, c.requires.list)

pub loop-from-preserved : goal.loop-from-preserved
loop-from-preserved c =
    let here = from_inside c.preds-froms.ensures.preds c.loop-from.from-index c.loop-from-test.true in
    let below = c.requires.below _ here in
    elim c.if-not-has.branch [
      | then-not-has w ↦
          rw (w.sizes-is, w.list-is, w.out-is, w.many-is)
          (taking_new c.preds-froms.ensures.preds c.loop-from.from-index c.loop-from-test.true c.loop-from.invariant (sym c.has.ensures ∙ w.if-not-has.true) w.insert.ensures (omega (arith, below, c.loop-from.auto.sizes)) (omega (arith, c.requires.list, c.loop-from.auto.list)))
      | else-not-has w ↦
          rw (w.sizes-is, w.list-is, w.out-is, w.many-is)
          (taking_had c.preds-froms.ensures.preds c.loop-from.from-index c.loop-from-test.true c.loop-from.invariant (sym c.has.ensures ∙ w.if-not-has.false))
    ]

pub returns-clause-came : goal.returns-clause-came
returns-clause-came c = taking_all c.preds-froms.ensures.preds c.loop-from.invariant c.loop-from-test.false
