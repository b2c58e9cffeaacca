use Rattle.std.proofs.Common.{ℕ, option_copied, sym, refl, ap, ◌∙◌, subst, arith, rules}
use Rattle.endless.specs.Games.{Game, other}
use Rattle.endless.specs.Says.{side, goes}
use Rattle.endless.specs.Sets.{Out}
use Rattle.endless.specs.Subgames.{Closed, Solves}
use Rattle.endless.specs.Bits.{members}
use Rattle.endless.specs.Sides.{number}
use Rattle.endless.specs.Pulling.{Unchanged}
use Rattle.endless.specs.Ways.{Untouched}
use Rattle.endless.specs.Desks.{SameDesk}
use Rattle.endless.specs.declared.desk.Desk.{Desk}
use Rattle.endless.specs.Levels.{Peels}
use Rattle.endless.proofs.Readers.{number_below}
use Rattle.endless.proofs.Places.{other_below, not_other}
use Rattle.endless.proofs.Tests.{T_true}
use Rattle.endless.proofs.Sets.{minus_within, minus_out}
use Rattle.endless.proofs.Ways.{counted_open}
use Rattle.endless.proofs.SetLaws.{members_below}
use Rattle.endless.proofs.Picking.{told_in}
use Rattle.endless.proofs.Levels.{room_now, room_set, room_light, room_below, desk_then, desk_none, leveling_more, leveling_all, solves_none}
use Rattle.endless.proofs.by_parts.+level_by_parts.Goals as goal
use Rattle.endless.proofs.by_parts.+level_by_parts.Goals.{then-below-gt0, else-below-gt0}

pub split_at_mut-left-requires : goal.split_at_mut-left-requires
split_at_mut-left-requires t c = room_set c.loop-remaining.invariant.2 (omega (arith, c.loop-remaining.invariant.1))

pub bring_about_part-weight-requires-clause-escapes : goal.bring_about_part-weight-requires-clause-escapes
bring_about_part-weight-requires-clause-escapes t c = λ n x. c.loop-remaining.invariant.4 n (c.take_part-count.ensures.taken.closed.within n x)

pub bring_about_part-weight-requires-clause-escaping : goal.bring_about_part-weight-requires-clause-escaping
bring_about_part-weight-requires-clause-escaping t c =
    let inside = c.take_part-count.ensures.taken.closed.within in
    counted_open c.args.graph.now (members c.loop-remaining.own) (members c.take_part-count.new.part) c.loop-remaining.desk.escapes.now c.loop-remaining.invariant.2.subgame inside (λ n x. c.loop-remaining.invariant.4 n (inside n x))

pub level_by_parts-requires : goal.level_by_parts-requires
level_by_parts-requires t c =
    let room = c.loop-remaining.invariant.2 in
    let closed = subst (λ (g : Game). Closed g (members c.loop-remaining.own) (members c.take_part-count.new.part)) c.places-places.ensures c.take_part-count.ensures.taken.closed in
    let heavy = c.bring_about_part-weight.ensures.heaviest (c.take_part-count.ensures.taken.some_place (omega (arith, c.loop-remaining.invariant.1))) in
    let part = c.take_part-count.ensures.taken.listed (option_copied c.save-beyond.result.0) c.save-beyond.ensures in
    let brought = c.bring_about_part-weight.ensures.brought room.subgame closed in (
      omega (arith, c.decreases, room_light c.take_part-count.new.part room closed heavy),
      (
        room_below c.take_part-count.new.part room closed heavy brought (omega (arith, c.split_at_mut-left.ensures.front_len)) (omega (arith, c.split_at_mut-left.ensures.back_len)) (search rules),
        (
          c.bring_about_part-weight.ensures.rest,
          (
            λ list e. record {
              covers = λ n x. (part.told _ (ap option_copied e) n).0 (brought.within n x);
              inside = λ j h. omega (arith, members_below c.loop-remaining.own _ (T_true _ (part.within _ (told_in list.now _ (part.told _ (ap option_copied e)) j h))), c.split_at_mut-left.ensures.front_len);
            },
            (c.requires.playable, c.bring_about_part-weight.ensures.escapes closed),
          ),
        ),
      ),
    )

pub peel_part-remaining-requires-clause-part : goal.peel_part-remaining-requires-clause-part
peel_part-remaining-requires-clause-part t c =
    let room = c.loop-remaining.invariant.2 in
    let own = members c.loop-remaining.own in
    let part = members c.take_part-count.new.part in
    let closed = subst (λ (g : Game). Closed g own part) c.places-places.ensures c.take_part-count.ensures.taken.closed in
    let brought = c.bring_about_part-weight.ensures.brought room.subgame closed in
    let below : Untouched (members c.bring_about_part-weight.new.left) c.bring_about_part-weight.new.desk.escapes.now c.if-below-gt0.desk.escapes.now = elim c.if-below-gt0.branch [
      | then-below-gt0 w ↦ rw w.desk-is w.level_by_parts.ensures.kept
      | else-below-gt0 w ↦ rw w.desk-is (λ n o. refl)
    ] in (
      part,
      c.take_part-count.ensures.taken.listed (option_copied c.save-beyond.result.0) c.save-beyond.ensures,
      λ n x.
          let out = minus_out own part n x in
          below n (λ y. out (brought.within n y)) ∙ c.bring_about_part-weight.ensures.kept n out ∙ c.loop-remaining.invariant.4 n (minus_within own part n x),
    )

pub loop-remaining-preserved : goal.loop-remaining-preserved
loop-remaining-preserved t c =
    let taken : SameDesk c.loop-remaining.desk c.bring_about_part-weight.new.desk = search rules in
    let below : SameDesk c.bring_about_part-weight.new.desk c.if-below-gt0.desk = elim c.if-below-gt0.branch [
      | then-below-gt0 w ↦ rw w.desk-is w.level_by_parts.ensures.same
      | else-below-gt0 w ↦ rw w.desk-is (desk_none _)
    ] in
    let room = c.loop-remaining.invariant.2 in
    let closed = subst (λ (g : Game). Closed g (members c.loop-remaining.own) (members c.take_part-count.new.part)) c.places-places.ensures c.take_part-count.ensures.taken.closed in
    let heavy = c.bring_about_part-weight.ensures.heaviest (c.take_part-count.ensures.taken.some_place (omega (arith, c.loop-remaining.invariant.1))) in
    let leveling = leveling_more c.loop-remaining.invariant.0
    (record {
      playable = c.requires.playable;
      sides = (omega arith, other_below (number c.of_weight.result), λ e. not_other (number c.of_weight.result) (other (number c.of_weight.result)) (number_below c.of_weight.result) (e ∙ c.of_weight.ensures) refl, refl);
      lengths = (taken.out_long, below.out_long, c.peel_part-remaining.ensures.same.out_long);
      inside = λ n x. closed.within n ((c.bring_about_part-weight.ensures.brought room.subgame closed).within n x);
      less = c.peel_part-remaining.ensures.less;
      closed = closed;
      heaviest = heavy;
      first_frame = λ n x. c.bring_about_part-weight.ensures.frame n (λ y. x (closed.within n y));
      brought = λ sub. c.bring_about_part-weight.ensures.brought sub closed;
      second_frame = elim c.if-below-gt0.branch [
        | then-below-gt0 w ↦ λ n x. subst (λ (d : Desk). Unchanged c.bring_about_part-weight.new.desk.out.now d.out.now n) (sym w.desk-is) (w.level_by_parts.ensures.frame n x)
        | else-below-gt0 w ↦ λ n x. subst (λ (d : Desk). Unchanged c.bring_about_part-weight.new.desk.out.now d.out.now n) (sym w.desk-is) (refl, refl)
      ];
      solved = elim c.if-below-gt0.branch [
        | then-below-gt0 w ↦ λ sub. subst (λ (d : Desk). Solves c.args.graph.now (members c.bring_about_part-weight.new.left) (side d.out.now) (goes d.out.now)) (sym w.desk-is) (w.level_by_parts.ensures.solves sub)
        | else-below-gt0 w ↦ solves_none c.args.graph.now c.bring_about_part-weight.new.left c.if-below-gt0.desk.out.now (omega (arith, c.bring_about_part-weight.ensures.rest, w.if-below-gt0.false))
      ];
      third_frame = c.peel_part-remaining.ensures.frame;
      peels = λ sub. subst (λ (w : ℕ). Peels c.args.graph.now (members c.loop-remaining.own) (members c.take_part-count.new.part) w (other (number c.of_weight.result)) (members c.peel_part-remaining.new.own) c.if-below-gt0.desk.out.now c.peel_part-remaining.new.desk.out.now) (sym c.of_weight.ensures)
          (c.peel_part-remaining.ensures.peels (members c.take_part-count.new.part) sub (c.take_part-count.ensures.taken.listed (option_copied c.save-beyond.result.0) c.save-beyond.ensures));
    }) in
    let same = desk_then c.loop-remaining.invariant.3 (desk_then taken (desk_then below c.peel_part-remaining.ensures.same)) in
    let untouched : Untouched (members c.bring_about_part-weight.new.left) c.bring_about_part-weight.new.desk.escapes.now c.if-below-gt0.desk.escapes.now = elim c.if-below-gt0.branch [
      | then-below-gt0 w ↦ rw w.desk-is w.level_by_parts.ensures.kept
      | else-below-gt0 w ↦ rw w.desk-is (λ n o. refl)
    ] in (
      leveling,
      c.peel_part-remaining.ensures.rest,
      room_now c.requires.room leveling (omega arith) (omega arith) same,
      same,
      c.peel_part-remaining.ensures.escapes,
      λ n o.
          let out : Out (members c.loop-remaining.own) n = λ x. o (c.loop-remaining.invariant.0.less n x) in
          let past : Out (members c.take_part-count.new.part) n = λ x. out (closed.within n x) in
          c.peel_part-remaining.ensures.kept n out ∙ untouched n (λ x. past ((c.bring_about_part-weight.ensures.brought room.subgame closed).within n x)) ∙ c.bring_about_part-weight.ensures.kept n past ∙ c.loop-remaining.invariant.5 n o,
    )

pub returns-clause-solves : goal.returns-clause-solves
returns-clause-solves t c = leveling_all (omega (arith, c.loop-remaining.invariant.1)) c.loop-remaining.invariant.0
