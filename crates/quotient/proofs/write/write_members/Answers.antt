use Rattle.std.proofs.Common.{arith}
use Rattle.quotient.proofs.Members.{member_below, emptying_room, emptying_more, emptying_all}
use Rattle.quotient.proofs.write.write_members.Goals as goal

pub remove-requires : goal.remove-requires
remove-requires c = omega (arith, member_below c.loop-part.set c.in-Some.part c.in-Some.ensures.is)

pub overflow_add-from : goal.overflow_add-from
overflow_add-from c = omega (arith, member_below c.loop-part.set c.in-Some.part c.in-Some.ensures.is, c.loop-part.auto.set, c.requires.small)

pub loop-part-preserved : goal.loop-part-preserved
loop-part-preserved c = emptying_more c.loop-part.invariant c.in-Some.ensures c.remove.ensures (emptying_room c.loop-part.invariant c.in-Some.ensures c.remove.ensures (omega (arith, c.requires.room, c.loop-part.auto.words)))

pub returns : goal.returns
returns c = emptying_all c.in_default.ensures c.loop-part.invariant
