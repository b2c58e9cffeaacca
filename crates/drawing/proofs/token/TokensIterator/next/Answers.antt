use Rattle.std.proofs.Common.{◌≡◌, suc, [], ◌∷◌, length, sym, refl, ap, ◌∙◌, arith}
use Rattle.drawing.specs.Form.{wrong, pieces}
use Rattle.drawing.specs.Lexed.{left}
use Rattle.drawing.proofs.Lexes.{lexed_end, lexed_token, lexed_wrong}
use Rattle.drawing.proofs.Pieces.{pieces_none}
use Rattle.drawing.proofs.token.TokensIterator.next.Goals as goal

pub returns-in-Ok-None-clause-steps : goal.returns-in-Ok-None-clause-steps
returns-in-Ok-None-clause-steps c = let e = lexed_end _ _ c.next_token.ensures (cc) in (e, e)

pub returns-in-Ok-Some-clause-steps : goal.returns-in-Ok-Some-clause-steps
returns-in-Ok-Some-clause-steps c = lexed_token _ _ c.next_token.ensures c.in-Ok-Some.token c.in-Ok-Some.rest (cc)

pub returns-in-Ok-Some-clause-goes : goal.returns-in-Ok-Some-clause-goes
returns-in-Ok-Some-clause-goes c =
    let fewer : length (left c.args.self.now) ≡ suc (length (pieces c.in-Ok-Some.rest.now)) = ap length (lexed_token _ _ c.next_token.ensures c.in-Ok-Some.token c.in-Ok-Some.rest (cc)) in
    record { on = λ _. (tt, tt, omega arith); keeps = tt; rests = λ _. tt }

pub returns-in-Err-clause-steps : goal.returns-in-Err-clause-steps
returns-in-Err-clause-steps c = lexed_wrong _ _ c.next_token.ensures _ c.in-Err.is ∙ ap (λ ps. wrong c.in-Err.fault ∷ ps) (sym (pieces_none [] refl))

pub returns-in-Err-clause-goes : goal.returns-in-Err-clause-goes
returns-in-Err-clause-goes c =
    let fewer : length (left c.args.self.now) ≡ 1 = ap length (lexed_wrong _ _ c.next_token.ensures _ c.in-Err.is) in
    let none : length (pieces []) ≡ 0 = ap length (pieces_none [] refl) in
    record { on = λ _. (tt, tt, omega arith); keeps = tt; rests = λ _. tt }
