use Rattle.std.proofs.Common.{length, ap, subst, ◌∙◌, arith}
use Rattle.endless.specs.Games.{Among}
use Rattle.endless.proofs.Among.{at_among}
use Rattle.endless.proofs.Places.{to_place}
use Rattle.quotient.proofs.Members.{empty_size}
use Rattle.quotient.proofs.Putting.{put_place, three_long}
use Rattle.quotient.proofs.write.write_place.Goals as goal

pub gather-count-requires-clause-places : goal.gather-count-requires-clause-places
gather-count-requires-clause-places c = λ k h. omega (arith, to_place c.moves.ensures.playable c.args.place _ (subst (Among _) c.moves.ensures.moves (at_among c.moves.result.now k h)), c.requires.numbers)

pub gather-count-requires-clause-inside : goal.gather-count-requires-clause-inside
gather-count-requires-clause-inside c = λ k h. omega (arith, c.requires.low _ (to_place c.moves.ensures.playable c.args.place _ (subst (Among _) c.moves.ensures.moves (at_among c.moves.result.now k h))), c.requires.set)

pub write_members-requires-clause-room : goal.write_members-requires-clause-room
write_members-requires-clause-room c = let k = c.gather-count.ensures in omega (arith, k.many, k.few, empty_size c.args.set.now c.requires.empty, ap length c.moves.ensures.moves, c.requires.room, three_long c.args.words.now c.args.at c.from.result c.head-head.result.weight c.gather-count.result)

pub returns-clause-put : goal.returns-clause-put
returns-clause-put c = put_place c.args.places.now c.args.place c.args.at c.args.words.now c.moves.ensures.moves c.requires.empty c.gather-count.ensures c.write_members.ensures (c.from.ensures ∙ c.head-head.ensures.whose) c.head-head.ensures.weight (omega (arith, c.requires.room))
