use Rattle.std.proofs.Common.{List, ℕ, sym, ◌∙◌, subst, arith}
use Rattle.endless.specs.Heads.{Begins}
use Rattle.endless.proofs.Readers.{place_found, place_missing}
use Rattle.endless.proofs.words.place_end.Goals as goal
use Rattle.endless.proofs.words.place_end.Goals.{then-moves-count-via-then-moves-count, then-moves-count-via-else-moves-count+then-not-all_below}

pub returns-then-moves-count : goal.returns-then-moves-count
returns-then-moves-count c =
    place_missing c.args.words.now c.args.at c.args.places c.in_ok-head.head
    (subst (λ (l : List ℕ). Begins l c.in_ok-head.head) c.in_ok-get.ensures.lookup.0.2 c.in_ok-head.ensures)
    (elim c.then-moves-count.branch [ then-moves-count-via-then-moves-count w ↦ λ long. absurd (omega arith) | then-moves-count-via-else-moves-count+then-not-all_below w ↦ λ long. sym w.all_below.ensures ∙ w.if-not-all_below.true ])

pub returns : goal.returns
returns c =
    place_found c.args.words.now c.args.at c.args.places c.in_ok-head.head
    (subst (λ (l : List ℕ). Begins l c.in_ok-head.head) c.in_ok-get.ensures.lookup.0.2 c.in_ok-head.ensures)
    c.if-moves-count.false (sym c.if-not-all_below.ensures)
