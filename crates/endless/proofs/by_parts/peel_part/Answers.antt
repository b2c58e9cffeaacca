use Rattle.std.proofs.Common.{ℕ, Some, sym, ◌∙◌, subst, inl, inr, arith, rules}
use Rattle.endless.specs.Sets.{having}
use Rattle.endless.specs.Bits.{members}
use Rattle.endless.specs.Sides.{number}
use Rattle.endless.specs.Levels.{Peels}
use Rattle.endless.specs.Parts.{Any, wanted}
use Rattle.endless.proofs.Sets.{having_in}
use Rattle.endless.proofs.Ways.{counted_all, counted_open}
use Rattle.endless.proofs.Levels.{peeled_of}
use Rattle.endless.proofs.by_parts.peel_part.Goals as goal

pub is_any_wanted-requires : goal.is_any_wanted-requires
is_any_wanted-requires c = record {
  part = (c.requires.part.0, c.requires.part.1);
  answers = λ n x. omega (arith, c.requires.lent.inside n x, c.requires.lent.sized.answers);
  small = c.requires.lent.small;
}

pub count_ways-requires : goal.count_ways-requires
count_ways-requires c = record {
  inside = c.requires.lent.inside;
  part = (c.requires.part.0, c.requires.part.1);
  sets = c.requires.lent.sized.sets;
  small = c.requires.lent.small;
  room = c.requires.lent.sized.counts;
}

pub gather_part-lost-requires : goal.gather_part-lost-requires
gather_part-lost-requires c = record {
  part = (c.requires.part.0, c.requires.part.1);
  answers = λ n x. omega (arith, c.requires.lent.inside n x, c.requires.lent.sized.answers);
  room = omega (arith, c.requires.lent.queues);
  small = c.requires.lent.small;
}

pub attract-taken-requires : goal.attract-taken-requires
attract-taken-requires c =
    let r = c.requires.part in
    let starts = c.gather_part-lost.ensures.starts r.0 r.1 in
    let counted = counted_all (members c.args.own.now) r.0 c.args.desk.now.escapes.now c.count_ways.new.escapes r.2 (c.count_ways.ensures r.0 r.1) in
    record {
      sized = record { sets = omega (arith, c.requires.lent.sized.sets); answers = c.requires.lent.sized.answers; counts = omega (arith, c.requires.lent.sized.counts) };
      inside = λ n x. c.requires.lent.inside n (starts.rest n x);
      targets = λ j h. c.requires.lent.inside _ (starts.inside _ (starts.first j h));
      room = omega (arith, c.gather_part-lost.ensures.counts, c.requires.lent.queues);
      beside = omega (arith, c.gather_part-lost.ensures.counts, c.requires.lent.beside);
      counted = c.requires.counted ∙ sym c.gather_part-lost.ensures.counts;
      escaping = counted_open c.args.graph.now (members c.args.own.now) (members c.gather_part-lost.new.set) c.count_ways.new.escapes c.requires.subgame starts.rest (λ n x. counted n (starts.rest n x));
    }

pub overflow_sub-result : goal.overflow_sub-result
overflow_sub-result c = omega (arith, c.requires.counted, c.gather_part-lost.ensures.counts, c.attract-taken.ensures.moved.counts)

pub returns-then-is_any_wanted : goal.returns-then-is_any_wanted
returns-then-is_any_wanted c =
    let r = c.requires.part in
    let starts = c.gather_part-lost.ensures.starts r.0 r.1 in
    let anew = c.count_ways.ensures r.0 r.1 in
    let counted = counted_all (members c.args.own.now) r.0 c.args.desk.now.escapes.now c.count_ways.new.escapes r.2 anew in
    let lost = subst (Any (having r.0 (wanted (Some c.other-loser.result) c.args.desk.now.out.now) (number c.other-loser.result))) c.if-is_any_wanted.true (c.is_any_wanted.ensures r.0 r.1) in
    record {
      rest = omega (arith, c.requires.counted, c.gather_part-lost.ensures.counts, c.attract-taken.ensures.moved.counts);
      falls = λ h. omega (arith, (starts.all lost.0 lost.1).1, c.gather_part-lost.ensures.counts, c.attract-taken.ensures.moved.counts, c.attract-taken.ensures.moved.grows);
      less = λ n x. starts.rest n (c.attract-taken.ensures.moved.less n x);
      same = search rules;
      frame = λ n x. c.attract-taken.ensures.frame n (λ y. absurd (x (starts.rest n y)));
      kept = λ n o. c.attract-taken.ensures.kept n (λ x. o (starts.rest n x)) ∙ anew.rest n (λ x. o (r.1.within n x));
      escapes = (c.attract-taken.ensures.attracts (members c.args.own.now) _ starts (λ n x. counted n (starts.rest n x))).counted;
      peels = λ R sub part.
          let here = c.gather_part-lost.ensures.starts R part in
          subst (λ (q : ℕ). Peels c.args.graph.now (members c.args.own.now) R (number c.args.winner) q (members c.attract-taken.new.left) c.args.desk.now.out.now c.attract-taken.new.desk.out.now) c.other-loser.ensures
          (inr (peeled_of here c.attract-taken.ensures.moved c.attract-taken.ensures.frame (c.attract-taken.ensures.attracts (members c.args.own.now) _ here (λ n x. counted n (here.rest n x)))));
    }

pub returns-else-is_any_wanted : goal.returns-else-is_any_wanted
returns-else-is_any_wanted c =
    let ends = c.peel_won.ensures in
    record {
      rest = ends.rest;
      falls = ends.falls;
      less = ends.less;
      same = search rules;
      frame = ends.frame;
      kept = ends.kept;
      escapes = ends.escapes;
      peels = λ R sub part.
          let none = subst (Any (having R (wanted (Some c.other-loser.result) c.args.desk.now.out.now) (number c.other-loser.result))) c.if-is_any_wanted.false (c.is_any_wanted.ensures R part) in
          inl (λ n x e. none n (having_in R _ _ n x (e ∙ sym c.other-loser.ensures)), ends.peeled R sub part);
    }
