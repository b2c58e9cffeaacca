use Rattle.std.proofs.Common.{ℕ, ◌<◌, length, get_or, subst, arith}
use Rattle.quotient.specs.Refining.{Alike, Linked}
use Rattle.quotient.proofs.Zeros.{zero_at}
use Rattle.quotient.proofs.Groups.{grouping_none, grouping_found, grouping_new, grouping_all, look_below}
use Rattle.quotient.proofs.group.group.Goals as goal
use Rattle.quotient.proofs.group.group.Goals.{in-Some, in-None}

pub loop-i-init : goal.loop-i-init
loop-i-init c = record {
  grouping = grouping_none c.args.places.now c.args.parts.now c.args.list.now c.args.groups.now.made.now c.fill.new.self c.fill-2.new.self (zero_at _ (c.fill.ensures.after (λ y e. e))) (zero_at _ (c.fill-2.ensures.after (λ y e. e)));
  empty = c.requires.empty;
}

pub loop-i-preserved : goal.loop-i-preserved
loop-i-preserved c =
    let g = c.args.places.now in
    let parts = c.args.parts.now in
    let i = c.loop-i.i in
    let list = c.args.list.now in
    let here : i < length list = omega arith in
    let inside = look_below g parts list (omega arith) in
    let is = c.bucket-bucket.ensures.is in
    elim c.match-find.branch [
      | in-Some w ↦
          rw (w.made-is, w.heads-is, w.links-is)
          (record {
            grouping = grouping_found c.loop-i.invariant.grouping here (omega (arith, c.loop-i.auto.made, c.requires.made)) (subst (λ (b : ℕ). Linked c.loop-i.links (get_or c.loop-i.heads b 0) w.in-Some.lead) is w.in-Some.ensures.found.0) w.in-Some.ensures.found.1 (inside i);
            empty = c.find.ensures.empty;
          })
      | in-None w ↦
          rw (w.made-is, w.heads-is, w.links-is, is)
          (record {
            grouping = grouping_new c.loop-i.invariant.grouping here (omega (arith, c.loop-i.auto.made, c.requires.made)) (subst (λ (b : ℕ). (l : ℕ) → Linked c.loop-i.links (get_or c.loop-i.heads b 0) l → Alike g parts list i l → ⊥) is w.in-None.ensures.found) inside (omega (arith, c.loop-i.auto.heads, c.fill.ensures.len, c.requires.heads)) (omega (arith, c.loop-i.auto.links, c.fill-2.ensures.len, c.requires.links));
            empty = c.find.ensures.empty;
          })
    ]

pub returns-clause-grouped : goal.returns-clause-grouped
returns-clause-grouped c = grouping_all (omega (arith, c.loop-i.auto.i-end)) c.loop-i.invariant.grouping
