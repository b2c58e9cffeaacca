use Rattle.std.proofs.Common.{sym, refl, ap, ◌∙◌, arith, rules}
use Rattle.std.specs.Prelude.{option_copied}
use Rattle.std.proofs.lemmas.Bool.{both_ways}
use Rattle.endless.specs.Bits.{members}
use Rattle.endless.specs.Sides.{number}
use Rattle.endless.proofs.Tests.{T_true}
use Rattle.endless.proofs.Sets.{having_in, having_within}
use Rattle.endless.proofs.SetLaws.{size_none}
use Rattle.endless.proofs.Picking.{starts_as}
use Rattle.endless.proofs.Turns.{peeled_whole}
use Rattle.endless.proofs.Levels.{peeled_of, left_counted}
use Rattle.endless.proofs.Ways.{counted_open}
use Rattle.endless.proofs.by_parts.peel_won.Goals as goal

pub returns-in-None : goal.returns-in-None
returns-in-None c = record {
  rest = sym c.clear.ensures;
  falls = λ h. omega (arith, c.clear.ensures);
  less = λ n x. absurd (both_ways _ (size_none c.clear.new.set c.clear.ensures n) (T_true _ x));
  same = search rules;
  frame = λ n x. (refl, refl);
  kept = λ n o. refl;
  escapes = λ n x. absurd (both_ways _ (size_none c.clear.new.set c.clear.ensures n) (T_true _ x));
  peeled = λ R sub part. peeled_whole c.args.graph.now (members c.args.own.now) R (number c.args.winner) (members c.clear.new.set) c.args.desk.now.out.now part.within (part.whole (ap option_copied c.in-None.is)) (λ n x. both_ways _ (size_none c.clear.new.set c.clear.ensures n) (T_true _ x));
}

pub gather_part-targets-requires-clause-answers : goal.gather_part-targets-requires-clause-answers
gather_part-targets-requires-clause-answers c = λ n x. omega (arith, c.requires.lent.inside n x, c.requires.lent.sized.answers)

pub attract-taken-requires : goal.attract-taken-requires
attract-taken-requires c =
    let r = c.requires.part in
    let starts = c.gather_part-targets.ensures.starts r.0 r.1 in
    record {
      sized = record { sets = omega (arith, c.requires.lent.sized.sets); answers = c.requires.lent.sized.answers; counts = c.requires.lent.sized.counts };
      inside = λ n x. c.requires.lent.inside n (starts.rest n x);
      targets = λ j h. c.requires.lent.inside _ (starts.inside _ (starts.first j h));
      room = omega (arith, c.gather_part-targets.ensures.counts, c.requires.lent.queues);
      beside = omega (arith, c.gather_part-targets.ensures.counts, c.requires.lent.beside);
      counted = c.requires.counted ∙ sym c.gather_part-targets.ensures.counts;
      escaping = counted_open c.args.graph.now (members c.args.own.now) (members c.gather_part-targets.new.set) c.args.desk.now.escapes.now c.requires.subgame starts.rest (left_counted c.args.graph.now r.0 c.args.desk.now.escapes.now starts (λ n x. having_in r.0 _ _ n x refl) r.2);
    }

pub overflow_sub-result : goal.overflow_sub-result
overflow_sub-result c = omega (arith, c.requires.counted, c.gather_part-targets.ensures.counts, c.attract-taken.ensures.moved.counts)

pub returns-in-Some : goal.returns-in-Some
returns-in-Some c =
    let r = c.requires.part in
    let starts = c.gather_part-targets.ensures.starts r.0 r.1 in
    record {
      rest = omega (arith, c.requires.counted, c.gather_part-targets.ensures.counts, c.attract-taken.ensures.moved.counts);
      falls = λ h. omega (arith, (starts.all _ (having_in r.0 _ _ _ (r.1.some_place h).1 refl)).1, c.gather_part-targets.ensures.counts, c.attract-taken.ensures.moved.counts, c.attract-taken.ensures.moved.grows);
      less = λ n x. starts.rest n (c.attract-taken.ensures.moved.less n x);
      same = search rules;
      frame = λ n x. c.attract-taken.ensures.frame n (λ y. absurd (x (starts.rest n y)));
      kept = λ n o. c.attract-taken.ensures.kept n (λ x. o (starts.rest n x));
      escapes = (c.attract-taken.ensures.attracts (members c.args.own.now) _ starts (left_counted c.args.graph.now r.0 c.args.desk.now.escapes.now starts (λ n x. having_in r.0 _ _ n x refl) r.2)).counted;
      peeled = λ R sub part.
          let here = starts_as (members c.args.own.now) _ R _ _ _ (having_within R _ _) (λ n x. having_in R _ _ n x refl) (c.gather_part-targets.ensures.starts R part) in
          peeled_of here c.attract-taken.ensures.moved c.attract-taken.ensures.frame (c.attract-taken.ensures.attracts (members c.args.own.now) R here (left_counted c.args.graph.now r.0 c.args.desk.now.escapes.now starts (λ n x. having_in r.0 _ _ n x refl) r.2));
    }
