use Rattle.std.proofs.Common.{◌≡◌, ℕ, ◌*◌, ◌<◌, List, length, get_or, sym, ap, ◌∙◌, subst, arith}
use mathlib.Core.Option.{Option}
use Rattle.endless.specs.Games.{nth, opt}
use Rattle.endless.specs.Says.{side}
use Rattle.endless.specs.Answers.{WinnerIs}
use Rattle.endless.proofs.Readers.{names_side, names_none}
use Rattle.endless.proofs.Nth.{nth_in, nth_out}
use Rattle.endless.proofs.answer.won_by.Goals as goal

at_side : (o : List ℕ) (n : ℕ) (x : Option ℕ) → nth o (2 * n) ≡ x → side o n ≡ opt x 2 (λ y. y)
at_side o n x e = ap (λ (z : Option ℕ). opt z 2 (λ y. y)) e

-- the word that stands there is the side's
word_side : (o : List ℕ) (n w : ℕ) → 2 * n < length o → w ≡ get_or o (2 * n) 0 → side o n ≡ w
word_side o n w h e = at_side o n _ (nth_in o (2 * n) 0 h) ∙ sym e

pub returns-in_err-word : goal.returns-in_err-word
returns-in_err-word c =
    let e = at_side c.args.answer.now c.args.place.0 _ (nth_out c.args.answer.now (2 * c.args.place.0) c.in_err-word.ensures.lookup.3) in
    subst (WinnerIs c.args.answer.now c.args.place.0) (sym c.from_residual.ensures) (omega (arith, e))

pub returns-in_err-side : goal.returns-in_err-side
returns-in_err-side c =
    let f = c.in_ok-word.ensures.lookup.3 in
    subst (WinnerIs c.args.answer.now c.args.place.0) (sym c.from_residual-in_err-side.ensures)
    (omega (arith, word_side c.args.answer.now c.args.place.0 _ f.0 (f.1 0), names_none _ c.try_from.result c.try_from.ensures c.in_err-side.ensures.value))

pub returns : goal.returns
returns c =
    let f = c.in_ok-word.ensures.lookup.3 in
    word_side c.args.answer.now c.args.place.0 _ f.0 (f.1 0) ∙ names_side _ c.try_from.result _ c.try_from.ensures c.in_ok-side.ensures.value
