use Rattle.std.proofs.Common.{length, get_or, ap, ◌∙◌, arith}
use Rattle.std.proofs.lemmas.List.{take_rest, length-drop}
use Rattle.endless.proofs.Reading.{front_weighs, front_many, front_long, reading_next}
use Rattle.ends.proofs.mend.read_head.Goals as goal
use Rattle.ends.proofs.mend.read_head.Goals.{then-head-ge256-via-then-head-ge256, then-head-ge256-via-else-head-ge256+then-place-head}

pub returns-then-place-lt3 : goal.returns-then-place-lt3
returns-then-place-lt3 c = λ g i h l r. omega (arith, front_long g i h, ap length (take_rest c.args.words.now c.args.at ∙ r.left))

pub returns-then-head-ge256 : goal.returns-then-head-ge256
returns-then-head-ge256 c = λ g i h l r.
    let slice = take_rest c.args.words.now c.args.at in
    let is = slice ∙ r.left in
    let weighs = ap (λ s. get_or s 1 0) is ∙ front_weighs g i h in
    let many = ap (λ s. get_or s 2 0) is ∙ front_many g i h in
    let next = (reading_next c.args.words.now g i c.args.at h r).bound in
    elim c.then-head-ge256.branch [ then-head-ge256-via-then-head-ge256 w ↦ omega (arith, weighs, c.read-head.ensures.weight, w.if-head-ge256) | then-head-ge256-via-else-head-ge256+then-place-head w ↦ omega (arith, many, next, ap length slice, length-drop c.args.at c.args.words.now, c.read-head.ensures.moves, w.if-place-head) ]
