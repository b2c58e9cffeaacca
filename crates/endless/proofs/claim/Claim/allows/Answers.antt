use Rattle.std.proofs.Common.{sym, ◌∙◌, eqb→eq}
use Rattle.std.proofs.lemmas.Bool.{eqb-true}
use Rattle.endless.proofs.Tests.{from_eq}
use Rattle.endless.proofs.Working.{goes_at}
use Rattle.endless.proofs.claim.Claim.allows.Goals as goal

pub returns-else-not-is_own : goal.returns-else-not-is_own
returns-else-not-is_own c =
    let plan = goes_at c.args.self.now.answer.now c.args.from in
    (λ t e. sym (eqb→eq _ _ t) ∙ sym plan, λ f. from_eq _ _ (sym (f (eqb-true _ _ (sym c.if-not-is_own.ensures)) ∙ plan)))
