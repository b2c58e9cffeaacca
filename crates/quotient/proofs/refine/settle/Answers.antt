use Rattle.std.proofs.Common.{◌∙◌, arith}
use Rattle.std.proofs.lemmas.List.{get_or-set_same, get_or-set_other}
use Rattle.quotient.proofs.Zeros.{zero_at}
use Rattle.quotient.proofs.Firsts.{told_parted, told_sound, told_stable, between_all}
use Rattle.quotient.proofs.Groups.{groups_none, groups_then}
use Rattle.quotient.proofs.Rounds.{stable, partition_none, partition_then}
use Rattle.quotient.proofs.refine.settle.Goals as goal

pub loop-first-init : goal.loop-first-init
loop-first-init c =
    let g = c.args.graph.now in
    let zeros = zero_at _ (c.fill.ensures.after (λ y e. e)) in
    let sizes = c.fill-2.new.self in
    let n = c.len.result in
    rw c.len-listed.ensures.len
    (record {
      between = between_all c.len.ensures.playable _ _ _ _ _ zeros (omega (arith, c.fill.ensures.len, c.requires.parts)) c.requires.set
          (get_or-set_same sizes 0 n 0 (omega (arith, c.fill-2.ensures.len, c.requires.sizes)) ∙ c.len.ensures.len)
          (λ q d. get_or-set_other sizes 0 q n 0 d ∙ zero_at _ (c.fill-2.ensures.after (λ y e. e)) q)
          (λ j h. c.list_all.ensures j (omega (arith, c.len-2.ensures.len)))
          (omega (arith, c.list_all.auto.list, c.requires.fresh)) c.requires.none_out;
      empty = c.requires.empty;
      still = partition_none _;
      same = groups_none c.args.groups.now;
    })

pub loop-first-preserved : goal.loop-first-preserved
loop-first-preserved c = record {
  between = c.round-next.ensures.between;
  empty = c.round-next.ensures.empty;
  still = partition_then c.loop-first.invariant.still c.round-next.ensures.still;
  same = groups_then c.loop-first.invariant.same c.round-next.ensures.same;
}

pub returns-clause-stable : goal.returns-clause-stable
returns-clause-stable c =
    let k = c.loop-first.invariant.between in
    told_stable k.in_parts c.find_firsts.new.firsts c.tell_by_first.new.told c.find_firsts.ensures c.tell_by_first.ensures (omega (arith, c.tell_by_first.auto.told, c.requires.told)) (stable k (omega (arith, c.loop-first-test.false)))

pub returns-clause-sound : goal.returns-clause-sound
returns-clause-sound c =
    let k = c.loop-first.invariant.between in
    told_sound k.in_parts c.find_firsts.new.firsts c.tell_by_first.new.told c.find_firsts.ensures c.tell_by_first.ensures (omega (arith, c.tell_by_first.auto.told, c.requires.told)) k.sound

pub returns-clause-parted : goal.returns-clause-parted
returns-clause-parted c =
    let k = c.loop-first.invariant.between in
    told_parted k.in_parts c.find_firsts.new.firsts c.tell_by_first.new.told c.find_firsts.ensures c.tell_by_first.ensures (omega (arith, c.tell_by_first.auto.told, c.requires.told))
