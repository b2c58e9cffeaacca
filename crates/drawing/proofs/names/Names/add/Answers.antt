use Rattle.std.proofs.Common.{◌<◌, ◌+◌, length, cond, is_some, sym, ap, ◌∙◌, arith}
use Rattle.std.proofs.lemmas.Bool.{not-true, not-false}
use Rattle.drawing.specs.Reading.{index_of}
use Rattle.drawing.proofs.Indices.{set_lacks, set_added, set_twice}
use Rattle.drawing.proofs.names.Names.add.Goals.{else-len-ge-MOST_PLACES-via-then-len-ge-MOST_PLACES+else-is_none, else-len-ge-MOST_PLACES-via-else-len-ge-MOST_PLACES}
use Rattle.drawing.proofs.names.Names.add.Goals as goal

-- where all places are taken, the name was found
room : (c : goal.Then-is_new) → length c.self.inside.names.keys < 16384
room c =
    let lacks = set_lacks c.args.self.now c.self.inside.names.keys c.args.name c.self.view_is (not-true _ (sym c.in_ok-place.ensures.added ∙ c.if-is_new.true)) in
    elim c.else-len-ge-MOST_PLACES.branch [
      | else-len-ge-MOST_PLACES-via-then-len-ge-MOST_PLACES+else-is_none w ↦ absurd (lacks (ap (λ x. is_some (index_of x c.args.self.now)) (sym w.as_str.ensures.value) ∙ ap is_some (sym w.find.ensures) ∙ w.if-is_none.ensures))
      | else-len-ge-MOST_PLACES-via-else-len-ge-MOST_PLACES w ↦ omega (arith, w.if-len-ge-MOST_PLACES.false, c.len.ensures.len)
    ]

pub invariant_of-self-then-is_new : goal.invariant_of-self-then-is_new
invariant_of-self-then-is_new c = omega (arith, room c, c.in_ok-place.ensures.len ∙ ap (λ t. length c.self.inside.names.keys + cond t 1 0) c.if-is_new.true)

pub returns-then-is_new : goal.returns-then-is_new
returns-then-is_new c = set_added c.args.self.now c.self.inside.names.keys c.args.name c.self.view_is (not-true _ (sym c.in_ok-place.ensures.added ∙ c.if-is_new.true)) c.args.line c.insert_full.new.self.keys (room c) c.in_ok-place.ensures.keys

pub returns : goal.returns
returns c = set_twice c.args.self.now c.self.inside.names.keys c.args.name c.self.view_is (not-false _ (sym c.in_ok-place.ensures.added ∙ c.if-is_new.false)) c.args.line c.insert_full.new.self.keys c.in_ok-place.place c.in_ok-place.ensures.stored c.index.result.now c.index.ensures _ c.in_ok-name.ensures.cases
