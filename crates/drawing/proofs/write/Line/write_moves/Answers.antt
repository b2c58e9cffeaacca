use Rattle.std.proofs.Common.{◌≡◌, ◌∷◌, Ok, refl, ap, ◌∙◌}
use Rattle.std.proofs.lemmas.Result.{err_from_is_err_and}
use Rattle.drawing.specs.declared.token.Token.TheVariants.{Colon, Word}
use Rattle.drawing.specs.Form.{names_of}
use Rattle.drawing.specs.Lexed.{meant, shown, left}
use Rattle.drawing.specs.Reading.{goals, or_unknown, index_of}
use Rattle.drawing.proofs.Moving.{left_more, left_err, left_none, left_bad}
use Rattle.drawing.proofs.Refusing.{refuses_on, mapped, unmapped}
use Rattle.drawing.proofs.write.Line.write_moves.Goals as goal

pub loop-token-init : goal.loop-token-init
loop-token-init c = λ ms h. record { left = ms; names_left = ap (λ t. names_of (left t)) c.into_iter-token-iterator.ensures.into_iter_gives ∙ h; same = refl }

pub returns-in_err-word : goal.returns-in_err-word
returns-in_err-word c = λ ms h.
    let was = unmapped c.in-Some.token c.map_err.result _ c.map_err.ensures.variant c.in_err-word.was in
    absurd (left_bad _ _ _ _ _ _ (c.loop-token.invariant ms h) _ (ap names_of (c.in-Some.ensures.steps ∙ ap (λ t. shown t ∷ left c.next.new.self) was.1)))

pub returns-in-Colon : goal.returns-in-Colon
returns-in-Colon c = λ ms h.
    let is : c.in-Some.token ≡ Ok Colon = mapped _ c.in-Some.token c.map_err.result _ c.map_err.ensures.cases c.map_err.ensures.variant (c.in_ok-word.was ∙ ap Ok c.in-Colon.is) in
    absurd (left_bad _ _ _ _ _ _ (c.loop-token.invariant ms h) _ (ap names_of (c.in-Some.ensures.steps ∙ ap (λ t. shown t ∷ left c.next.new.self) is)))

pub returns-in_err-find-in-Word : goal.returns-in_err-find-in-Word
returns-in_err-find-in-Word c = λ ms h.
    let p = err_from_is_err_and c.from_residual-in_err-find-in-Word.result c.from_residual-in_err-find-in-Word.ensures.1 in
    let is : c.in-Some.token ≡ Ok (Word c.in-Word.word) = mapped _ c.in-Some.token c.map_err.result _ c.map_err.ensures.cases c.map_err.ensures.variant (c.in_ok-word.was ∙ ap Ok c.in-Word.is) in
    let named = c.in-Some.ensures.steps ∙ ap (λ t. shown t ∷ left c.next.new.self) is in
    rw (p.1, p.2) (refuses_on (or_unknown c.args.self.number (meant c.in-Word.word) (index_of (meant c.in-Word.word) c.args.self.names.now)) (goals c.args.self.number c.args.self.names.now c.args.words.now.items ms) (λ w e. left_err _ _ _ _ _ _ (c.loop-token.invariant ms h) _ _ _ named w e) _ c.in_err-find-in-Word.ensures)

pub loop-token-preserved : goal.loop-token-preserved
loop-token-preserved c = λ ms h.
    let is : c.in-Some.token ≡ Ok (Word c.in-Word.word) = mapped _ c.in-Some.token c.map_err.result _ c.map_err.ensures.cases c.map_err.ensures.variant (c.in_ok-word.was ∙ ap Ok c.in-Word.is) in
    let named = c.in-Some.ensures.steps ∙ ap (λ t. shown t ∷ left c.next.new.self) is in
    left_more _ _ _ _ _ _ (c.loop-token.invariant ms h) _ _ _ named _ c.in_ok-find-in-Word.ensures _ c.in_ok-push-in-Word.ensures.items

pub returns : goal.returns
returns c = λ ms h. left_none _ _ _ _ _ _ (c.loop-token.invariant ms h) c.in-None.ensures.steps.0
