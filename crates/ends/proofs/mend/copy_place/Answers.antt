use Rattle.std.proofs.Common.{ℕ, ◌+◌, [], ◌∷◌, ◌++◌, take, ap, ◌∙◌, arith}
use Rattle.ends.proofs.Mending.{copies_end, copies_moves, put_moves}
use Rattle.ends.proofs.mend.copy_place.Goals as goal

pub returns-then-head-eq0 : goal.returns-then-head-eq0
returns-then-head-eq0 c =
    let h = c.in_ok-head.head in
    let t = c.in_ok-head.ensures in
    copies_end c.args.words.now c.args.at c.args.index c.args.made.now c.args.to c.write.new.made h.whose h.weight h.moves t.0 t.1 t.2 c.if-head-eq0.true
    (c.write.ensures ∙ ap (λ (x : ℕ). take c.args.to c.args.made.now ++ (h.whose ∷ x ∷ 1 ∷ c.args.index ∷ [])) c.end_weight.ensures)

pub returns : goal.returns
returns c =
    let h = c.in_ok-head.head in
    let t = c.in_ok-head.ensures in
    copies_moves c.args.words.now c.args.at c.args.index c.args.made.now c.args.to c.write-2.new.made h.whose h.weight h.moves t.0 t.1 t.2 c.if-head-eq0.false
    (put_moves c.args.words.now c.args.at c.args.made.now c.args.to c.write-2.new.made (3 + h.moves) (omega (arith, t.2)) c.write-2.ensures)
