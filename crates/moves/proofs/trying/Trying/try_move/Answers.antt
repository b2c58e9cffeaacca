use Rattle.std.proofs.Common.{rules, ℕ, ◌+◌, length, get_or, set, refl, ap, subst, arith}
use Rattle.endless.specs.Games.{Game}
use Rattle.moves.specs.Alone.{alone}
use Rattle.moves.specs.Led.{Avoids}
use Rattle.moves.proofs.Alone.{length_alone}
use Rattle.moves.proofs.Lists.{length_targets, within_words}
use Rattle.moves.proofs.Avoiding.{led_long, the_other}
use Rattle.moves.proofs.Marks.{marking_more, marking_set}
use Rattle.moves.proofs.Tries.{step_inside, step_to, step_made, step_leaves, step_avoids, step_subgame, step_fails, step_wins}
use Rattle.moves.proofs.trying.Trying.try_move.Goals as goal

pub overflow_add-places : goal.overflow_add-places
overflow_add-places c = let s = c.args.self.now in let r = c.requires in omega (arith, step_inside s.solved.reads r.place r.first r.low r.high, s.roomy.marks, c.len-places.ensures.len)

pub offset_bounds-self-places : goal.offset_bounds-self-places
offset_bounds-self-places c = let s = c.args.self.now in let r = c.requires in omega (arith, step_inside s.solved.reads r.place r.first r.low r.high, s.roomy.marks, c.len-places.ensures.len)

pub bounds-self-places : goal.bounds-self-places
bounds-self-places c = let s = c.args.self.now in let r = c.requires in omega (arith, step_inside s.solved.reads r.place r.first r.low r.high, s.roomy.marks, c.len-places.ensures.len)

pub offset_bounds-solved-k : goal.offset_bounds-solved-k
offset_bounds-solved-k c = let s = c.args.self.now in let r = c.requires in omega (arith, step_inside s.solved.reads r.place r.first r.low r.high, length_targets s.solved.places.now, ap length s.solved.to_are)

pub bounds-solved-k : goal.bounds-solved-k
bounds-solved-k c = let s = c.args.self.now in let r = c.requires in omega (arith, step_inside s.solved.reads r.place r.first r.low r.high, length_targets s.solved.places.now, ap length s.solved.to_are)

pub stays-requires-clause-to : goal.stays-requires-clause-to
stays-requires-clause-to c = let s = c.args.self.now in let r = c.requires in step_to s.solved.reads r.place r.first r.low r.high (ap (λ l. get_or l c.args.k 0) s.solved.to_are)

pub returns-in_default-clause-tries : goal.returns-in_default-clause-tries
returns-in_default-clause-tries c = λ first m.
    let s = c.args.self.now in
    let r = c.requires in
    marking_more m (λ x. absurd (step_leaves s.solved.reads r.place r.first r.low r.high (ap (λ l. get_or l c.args.k 0) s.solved.to_are) s.solved.answer.now c.in_default.ensures x))

pub comes_to-requires-clause-from : goal.comes_to-requires-clause-from
comes_to-requires-clause-from c =
    let s = c.args.self.now in
    let r = c.requires in
    omega (arith, step_to s.solved.reads r.place r.first r.low r.high (ap (λ l. get_or l c.args.k 0) s.solved.to_are), led_long s.solved.places.now s.solved.answer.now s.led_is)

pub comes_to-requires-clause-to : goal.comes_to-requires-clause-to
comes_to-requires-clause-to c = let s = c.args.self.now in omega (arith, c.requires.place, led_long s.solved.places.now s.solved.answer.now s.led_is)

pub comes_to-requires-clause-queue : goal.comes_to-requires-clause-queue
comes_to-requires-clause-queue c = let s = c.args.self.now in omega (arith, s.roomy.queues, led_long s.solved.places.now s.solved.answer.now s.led_is)

pub overflow_add-self : goal.overflow_add-self
overflow_add-self c = let s = c.args.self.now in let r = c.requires in omega (arith, step_inside s.solved.reads r.place r.first r.low r.high, s.roomy.marks, c.len-places.ensures.len)

pub offset_bounds-self-places-then-not-comes_to : goal.offset_bounds-self-places-then-not-comes_to
offset_bounds-self-places-then-not-comes_to c = let s = c.args.self.now in let r = c.requires in omega (arith, step_inside s.solved.reads r.place r.first r.low r.high, s.roomy.marks, c.len-places.ensures.len)

pub bounds-self-places-then-not-comes_to : goal.bounds-self-places-then-not-comes_to
bounds-self-places-then-not-comes_to c = let s = c.args.self.now in let r = c.requires in omega (arith, step_inside s.solved.reads r.place r.first r.low r.high, s.roomy.marks, c.len-places.ensures.len)

pub returns-then-not-comes_to-clause-tries : goal.returns-then-not-comes_to-clause-tries
returns-then-not-comes_to-clause-tries c = λ first m.
    let s = c.args.self.now in
    let r = c.requires in
    let own = c.in-Some.ensures in
    let avoids = subst (λ (h : Game). Avoids h (get_or s.solved.to.now c.args.k 0) c.args.place) s.led_is (the_other c.if-not-comes_to.ensures) in
    marking_set m (step_inside s.solved.reads r.place r.first r.low r.high) (omega (arith, step_inside s.solved.reads r.place r.first r.low r.high, s.roomy.marks))
    (step_avoids s.solved.reads r.place r.first r.low r.high (ap (λ l. get_or l c.args.k 0) s.solved.to_are) r.answer own.0 own.1 own.2 avoids) (ap (λ (i : ℕ). set s.out.now (i + c.args.k) 1) c.len-places.ensures.len)

pub overflow_add-at-2 : goal.overflow_add-at-2
overflow_add-at-2 c =
    let s = c.args.self.now in
    let r = c.requires in
    omega (arith, within_words s.solved.places.now c.args.place r.place, r.first, ap length s.solved.words_are)

pub leave_one-requires-clause-within : goal.leave_one-requires-clause-within
leave_one-requires-clause-within c =
    let s = c.args.self.now in
    let r = c.requires in
    omega (arith, within_words s.solved.places.now c.args.place r.place, r.first, ap length s.solved.words_are, ap length c.moves-count.ensures.moves)

pub answer_within-requires-clause-game : goal.answer_within-requires-clause-game
answer_within-requires-clause-game c =
    let s = c.args.self.now in
    let r = c.requires in
    let g : Game = s.solved.places.now in
    let to = get_or s.solved.to.now c.args.k 0 in
    let to_is = ap (λ l. get_or l c.args.k 0) s.solved.to_are in
    let own = c.in-Some.ensures in (
      alone g c.args.place to,
      step_made s.solved.reads r.place r.first r.low r.high to_is s.solved.words_are refl (ap length c.moves-count.ensures.moves) c.leave_one.ensures,
      omega (arith, length_alone g c.args.place to, s.roomy.answers),
      omega (arith, length_alone g c.args.place to, s.roomy.parts, s.roomy.wide),
      step_subgame s.solved.reads r.place r.first r.low r.high to_is r.answer own.0 own.2 c.len.ensures.len c.gather_given.new.set c.gather_given.ensures,
    )

pub mark_plan-requires-clause-first : goal.mark_plan-requires-clause-first
mark_plan-requires-clause-first c = let s = c.args.self.now in let r = c.requires in omega (arith, step_inside s.solved.reads r.place r.first r.low r.high)

pub returns-then-eq-clause-tries : goal.returns-then-eq-clause-tries
returns-then-eq-clause-tries c = λ first m.
    let s = c.args.self.now in
    let r = c.requires in
    let g : Game = s.solved.places.now in
    let to_is = ap (λ l. get_or l c.args.k 0) s.solved.to_are in
    let tried = c.answer_within.ensures (alone g c.args.place (get_or s.solved.to.now c.args.k 0)) (step_made s.solved.reads r.place r.first r.low r.high to_is s.solved.words_are refl (ap length c.moves-count.ensures.moves) c.leave_one.ensures) in
    let own = c.in-Some.ensures in
    step_wins s.solved.reads r.place r.first r.low r.high to_is r.answer own.0 own.2 c.len.ensures.len c.gather_given.new.set c.gather_given.ensures c.answer_within.new.answer tried own.1 (search rules) m c.mark_plan.ensures

pub returns-else-eq-clause-tries : goal.returns-else-eq-clause-tries
returns-else-eq-clause-tries c = λ first m.
    let s = c.args.self.now in
    let r = c.requires in
    let g : Game = s.solved.places.now in
    let to_is = ap (λ l. get_or l c.args.k 0) s.solved.to_are in
    let tried = c.answer_within.ensures (alone g c.args.place (get_or s.solved.to.now c.args.k 0)) (step_made s.solved.reads r.place r.first r.low r.high to_is s.solved.words_are refl (ap length c.moves-count.ensures.moves) c.leave_one.ensures) in
    let own = c.in-Some.ensures in
    marking_more m (λ x. absurd (step_fails s.solved.reads r.place r.first r.low r.high to_is r.answer own.0 own.2 c.len.ensures.len c.gather_given.new.set c.gather_given.ensures c.answer_within.new.answer tried (λ e. search rules) x))
