use Rattle.std.proofs.Common.{◌∙◌}
use Rattle.allplans.proofs.Checks.{right_answer, right_moved}
use Rattle.allplans.proofs.checker.check.Goals as goal

pub returns : goal.returns
returns c =
    right_moved _ _ _ _ (c.in-Some.ensures.0 ∙ c.as_slice.ensures.value) (c.in-Some.ensures.1 ∙ c.as_slice-2.ensures.value)
    (right_answer c.in-Some.claimed.places.now c.in-Some.claimed.claims.now c.in-Some.claimed.level c.in_ok-look_at_all.ensures c.in_ok-check_side.ensures c.in_ok-check_side-2.ensures)
