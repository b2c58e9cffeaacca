use Rattle.std.proofs.Common.{◌<◌, ◌≤◌, length, refl, arith}
use Rattle.quotient.proofs.Ranks.{rank_none, rank_lead, rank_else, numbered_lead, numbered_else, behind_more}
use Rattle.quotient.proofs.number.number.Goals as goal
use Rattle.quotient.proofs.number.number.Goals.{then-lead-place, else-lead-place}

pub loop-place-init : goal.loop-place-init
loop-place-init c = record { many = rank_none c.args.parts.now; numbered = λ n h. absurd (omega arith); behind = λ k h. refl; few = omega arith }

pub loop-place-preserved : goal.loop-place-preserved
loop-place-preserved c =
    let k = c.loop-place.invariant in
    let i = c.loop-place.place in
    let parted = c.requires.parted.1 in
    let parts = c.args.parts.now in
    let here : i < length c.args.places.now = omega (arith, c.len-place-end.ensures.len) in
    let room : length c.args.places.now ≤ length c.loop-place.numbers = omega (arith, c.loop-place.auto.numbers, c.requires.room) in
    elim c.if-lead-place.branch [
      | then-lead-place w ↦
          rw (w.numbers-is, w.count-is)
          (record {
            many = omega (arith, k.many, rank_lead parts i w.if-lead-place.true);
            numbered = numbered_lead parted c.loop-place.numbers k.numbered here room c.loop-place.count k.many w.if-lead-place.true;
            behind = behind_more parted c.loop-place.numbers k.numbered here room c.args.numbers.now c.loop-place.count k.behind;
            few = omega (arith, k.few);
          })
      | else-lead-place w ↦
          rw (w.numbers-is, w.count-is)
          (record {
            many = omega (arith, k.many, rank_else parts i w.if-lead-place.false);
            numbered = numbered_else parted c.loop-place.numbers k.numbered here room w.if-lead-place.false;
            behind = behind_more parted c.loop-place.numbers k.numbered here room c.args.numbers.now _ k.behind;
            few = omega (arith, k.few);
          })
    ]
