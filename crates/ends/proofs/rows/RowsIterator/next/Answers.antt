use Rattle.std.proofs.Common.{◌∷◌, length, take, drop, sym, ap, ◌∙◌, length-append, arith}
use Rattle.std.proofs.lemmas.List.{take_rest, take_at, drop_at}
use Rattle.endless.specs.Games.{row}
use Rattle.ends.proofs.FirstRow.{short_row, begun}
use Rattle.ends.proofs.rows.RowsIterator.next.Goals as goal

pub returns-in_default-clause-steps : goal.returns-in_default-clause-steps
returns-in_default-clause-steps c = λ ps e. short_row c.args.self.now.words.now ps e c.in_default.len_below

pub returns-in_err-moves-clause-steps : goal.returns-in_err-moves-clause-steps
returns-in_err-moves-clause-steps c = λ ps e.
    let b = begun c.args.self.now.words.now ps e c.in-len3-up.len_at_least in
    absurd (omega (arith, c.in_err-moves.ensures.cases, b.many, ap length (take_rest c.args.self.now.words.now 3 ∙ b.rest), length-append b.place.moves (row b.others)))

pub returns-clause-steps : goal.returns-clause-steps
returns-clause-steps c = λ ps e.
    let b = begun c.args.self.now.words.now ps e c.in-len3-up.len_at_least in
    let rest = take_rest c.args.self.now.words.now 3 ∙ b.rest in
    let split = c.in_ok-moves.ensures.cases in
    let front = split.1 ∙ ap (take _) rest ∙ take_at b.place.moves (row b.others) _ (sym b.many) in
    let back = split.2 ∙ ap (drop _) rest ∙ drop_at b.place.moves (row b.others) _ (sym b.many) in
    (b.others, b.are ∙ (λ i. record { whose = sym b.whose i; weight = sym b.weight i; moves = sym front i } ∷ b.others), back)
