use Rattle.allplans.proofs.Claims.{told_again}
use Rattle.allplans.proofs.answer.Answer.of_lists.Goals as goal

pub returns-in-Ok : goal.returns-in-Ok
returns-in-Ok c = told_again _ _ _ c.if-winners-plan.false c.in-Ok.ensures
