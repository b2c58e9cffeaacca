use Rattle.std.proofs.Common.{sym, subst, arith}
use Rattle.std.proofs.lemmas.Bool.{both_ways, eqb-true, eqb-false}
use Rattle.endless.specs.Games.{May}
use Rattle.endless.specs.Bits.{members}
use Rattle.endless.proofs.Tests.{true_T, T_true}
use Rattle.endless.proofs.Places.{to_place}
use Rattle.endless.proofs.MovesAt.{move_at, move_inside}
use Rattle.endless.proofs.Working.{goes_at}
use Rattle.endless.proofs.Looks.{found_among, not_among, plan_may, may_plan, goes_in, goes_out, stays_own, stays_other}
use Rattle.endless.proofs.look.look_at.Goals as goal

pub returns-then-not-contains : goal.returns-then-not-contains
returns-then-not-contains c = λ x. (
  x,
  eqb-true _ _ (sym c.if-is_own.ensures),
  λ may. not_among _ _ (λ k h. eqb-false _ _ (c.if-not-contains.ensures.cases k 0 (omega arith) h)) (may_plan c.args.places.now c.args.place _ c.args.answer.now c.moves-moves.ensures.moves may),
)

pub has-requires : goal.has-requires
has-requires c =
    let may = plan_may c.args.places.now c.args.place c.moves-moves.result.now c.args.answer.now c.moves-moves.ensures.moves (found_among c.if-not-contains.ensures.cases) in
    omega (arith, c.requires.sets, to_place c.moves-moves.ensures.playable c.args.place _ may, goes_at c.args.answer.now c.args.place)

pub returns-then-not-has : goal.returns-then-not-has
returns-then-not-has c = λ x. (
  x,
  eqb-true _ _ (sym c.if-is_own.ensures),
  plan_may _ _ _ c.args.answer.now c.moves-moves.ensures.moves (found_among c.if-not-contains.ensures.cases),
  goes_out (members c.args.set.now) c.args.answer.now c.args.place (sym c.if-not-has.ensures),
)

pub returns-then-is_own : goal.returns-then-is_own
returns-then-is_own c = λ x.
    stays_own (eqb-true _ _ (sym c.if-is_own.ensures)) (plan_may _ _ _ c.args.answer.now c.moves-moves.ensures.moves (found_among c.if-not-contains.ensures.cases))
    (goes_in (members c.args.set.now) c.args.answer.now c.args.place (sym c.if-not-has.ensures))

pub first_out-requires : goal.first_out-requires
first_out-requires c = record {
  same = c.requires.same;
  inside = λ k h. omega (arith, c.requires.sets, move_inside c.moves-moves.ensures.playable c.args.place c.moves-moves.result.now c.moves-moves.ensures.moves k h);
}

pub returns-in-Some : goal.returns-in-Some
returns-in-Some c = λ x.
    let t = c.in-Some.ensures in (
      x,
      eqb-false _ _ (sym c.if-is_own.ensures),
      subst (λ m. May c.args.places.now c.args.place m) t.2 (move_at c.args.places.now c.args.place _ c.moves-moves.ensures.moves t.0 t.1),
      true_T _ t.3,
      λ y. both_ways _ t.4 (T_true _ y),
    )

pub returns-in-None : goal.returns-in-None
returns-in-None c = λ x. stays_other _ c.moves-moves.ensures.moves (eqb-false _ _ (sym c.if-is_own.ensures)) c.in-None.ensures
