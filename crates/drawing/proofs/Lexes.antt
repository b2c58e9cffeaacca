-- What a token says of the pieces of a line.
use Rattle.std.proofs.Common.{◌≡◌, ◌≢◌, List, [], ◌∷◌, length, false, eqb, None, Some, Ok, Err, Option, Result, refl, ap, ◌∙◌, subst, Bor, ℕ}
use Rattle.std.proofs.lemmas.Bool.{cond-false, ne_eqb}
use Rattle.drawing.specs.declared.refusal.Fault.{Fault}
use Rattle.drawing.specs.declared.token.Token.{Token}
use Rattle.drawing.specs.Form.{wrong, bare, next_dark, next_piece, pieces}
use Rattle.drawing.specs.Lexed.{piece, Lexed}
use Rattle.drawing.proofs.Pieces.{pieces_none, pieces_next, pieces_wrong}

module _ (bs : List ℕ) (r : Result (Option (Token × Bor (List ℕ))) Fault) (h : Lexed (next_piece bs) r) where
  pub lexed_end : r ≡ Ok None → pieces bs ≡ []
  lexed_end was = pieces_none bs (subst (Lexed (next_piece bs)) was h)

  pub lexed_token : (t : Token) (rest : Bor (List ℕ)) → r ≡ Ok (Some (t, rest)) → pieces bs ≡ piece t ∷ pieces rest.now
  lexed_token t rest was = pieces_next bs _ _ (subst (Lexed (next_piece bs)) was h)

  pub lexed_wrong : (e : Fault) → r ≡ Err e → pieces bs ≡ wrong e ∷ []
  lexed_wrong e was = pieces_wrong bs e (subst (Lexed (next_piece bs)) was h)

-- what begins neither a comment nor another token is a bare word
pub dark_bare : (bs : List ℕ) → (length bs ≡ 0 → ⊥) → ((rest : List ℕ) → bs ≢ 35 ∷ rest) → ((rest : List ℕ) → bs ≢ 58 ∷ rest) → ((rest : List ℕ) → bs ≢ 34 ∷ rest) → next_dark bs ≡ bare bs
dark_bare [] some comment colon quote = absurd (some refl)
dark_bare (b ∷ bs) some comment colon quote =
    cond-false _ _ _ (other 35 comment) ∙ cond-false _ _ _ (other 58 colon) ∙ cond-false _ _ _ (other 34 quote)
  where
    other : (c : ℕ) → ((rest : List ℕ) → (b ∷ bs) ≢ c ∷ rest) → eqb b c ≡ false
    other c h = ne_eqb b c (λ e. h bs (ap (λ x. x ∷ bs) e))
