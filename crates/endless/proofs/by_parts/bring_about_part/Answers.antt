use Rattle.std.proofs.Common.{ℕ, sym, ◌∙◌, subst, arith}
use Rattle.endless.specs.Bits.{members}
use Rattle.endless.specs.Levels.{Brought}
use Rattle.endless.proofs.Tests.{T_true, true_T}
use Rattle.endless.proofs.SetLaws.{size_sub}
use Rattle.endless.proofs.Ways.{counted_part}
use Rattle.endless.proofs.Levels.{then_unchanged, brought_in}
use Rattle.endless.proofs.by_parts.bring_about_part.Goals as goal

pub heaviest_in-weight-requires-clause-inside : goal.heaviest_in-weight-requires-clause-inside
heaviest_in-weight-requires-clause-inside c = λ n x. c.requires.lent.inside n (c.requires.part.within n x)

pub gather_targets-targets-requires-clause-room : goal.gather_targets-targets-requires-clause-room
gather_targets-targets-requires-clause-room c = omega (arith, c.requires.lent.queues, size_sub c.args.left.now c.args.own.now c.requires.same (λ j x. T_true _ (c.requires.part.within j (true_T _ x))))

pub attract-taken-requires : goal.attract-taken-requires
attract-taken-requires c =
    let starts = c.gather_targets-targets.ensures.gathered.starts in
    record {
      sized = record { sets = omega (arith, c.requires.lent.sized.sets, c.requires.same); answers = omega (arith, c.requires.lent.sized.answers); counts = c.requires.lent.sized.counts };
      inside = λ n x. c.requires.lent.inside n (c.requires.part.within n (starts.rest n x));
      targets = λ j h. c.requires.lent.inside _ (c.requires.part.within _ (starts.inside _ (starts.first j h)));
      room = omega (arith, c.gather_targets-targets.ensures.counts, c.requires.lent.queues, size_sub c.args.left.now c.args.own.now c.requires.same (λ j x. T_true _ (c.requires.part.within j (true_T _ x))));
      beside = omega (arith, c.gather_targets-targets.ensures.counts, c.requires.lent.beside, size_sub c.args.left.now c.args.own.now c.requires.same (λ j x. T_true _ (c.requires.part.within j (true_T _ x))));
      counted = c.part_size-all.ensures ∙ c.requires.counted ∙ sym c.gather_targets-targets.ensures.counts;
      escaping = λ n x. c.requires.escaping n (starts.rest n x);
    }

pub overflow_sub-result : goal.overflow_sub-result
overflow_sub-result c = omega (arith, c.part_size-all.ensures, c.requires.counted, c.gather_targets-targets.ensures.counts, c.attract-taken.ensures.moved.counts)

pub returns-clause-rest : goal.returns-clause-rest
returns-clause-rest c = omega (arith, c.part_size-all.ensures, c.requires.counted, c.gather_targets-targets.ensures.counts, c.attract-taken.ensures.moved.counts)

pub returns-clause-heaviest : goal.returns-clause-heaviest
returns-clause-heaviest c = c.heaviest_in-weight.ensures

pub returns-clause-frame : goal.returns-clause-frame
returns-clause-frame c = λ n x. then_unchanged c.args.desk.now.out.now c.gather_targets-targets.new.out c.attract-taken.new.desk.out.now n (c.gather_targets-targets.ensures.frame n x) (c.attract-taken.ensures.frame n (λ y. absurd (x (c.gather_targets-targets.ensures.gathered.starts.rest n y))))

pub returns-clause-kept : goal.returns-clause-kept
returns-clause-kept c = λ n o. c.attract-taken.ensures.kept n (λ x. o (c.gather_targets-targets.ensures.gathered.starts.rest n x))

pub returns-clause-escapes : goal.returns-clause-escapes
returns-clause-escapes c = λ closed.
    let starts = c.gather_targets-targets.ensures.gathered.starts in
    (c.attract-taken.ensures.attracts (members c.args.left.now) _ starts (counted_part (members c.gather_targets-targets.new.left) c.args.desk.now.escapes.now closed c.requires.escapes starts.rest)).counted

pub returns-clause-brought : goal.returns-clause-brought
returns-clause-brought c = λ sub closed.
    let ga = c.gather_targets-targets.ensures.gathered in
    subst (λ (w : ℕ). Brought c.args.graph.now (members c.args.left.now) w c.heaviest_in-weight.result (members c.attract-taken.new.left) c.attract-taken.new.desk.out.now) (sym c.of_weight-side.ensures)
    (brought_in sub closed (omega arith) ga c.attract-taken.ensures.moved c.attract-taken.ensures.frame (c.attract-taken.ensures.attracts (members c.args.left.now) _ ga.starts (counted_part (members c.gather_targets-targets.new.left) c.args.desk.now.escapes.now closed c.requires.escapes ga.starts.rest)))
