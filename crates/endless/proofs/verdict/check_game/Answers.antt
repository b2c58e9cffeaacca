use Rattle.std.proofs.Common.{ℕ, List, length, ap, subst, arith}
use Rattle.std.proofs.lemmas.Result.{MatchResult-weaker}
use Rattle.endless.specs.Checked.{SideChecked}
use Rattle.endless.specs.declared.side.Side.TheVariants.{Odd}
use Rattle.endless.proofs.Checks.{both_hold}
use Rattle.endless.proofs.verdict.check_game.Goals as goal

pub returns : goal.returns
returns c =
    let o = c.args.answer.now in
    let is = c.lay_out-graph.ensures.is in
    let first = c.in_ok-check_side.ensures in
    let second = subst (λ h. SideChecked h o Odd c.check_side-2.result) first.graph (subst (λ (p : List ℕ). SideChecked c.check_side.new.self.graph p Odd c.check_side-2.result) first.answer c.check_side-2.ensures.checked) in
    rw (← is)
    (MatchResult-weaker c.check_side-2.result second
    (λ u odd. both_hold c.lay_out-graph.result.graph o (λ n l. c.in_default.ensures n (omega (arith, ap length is))) first.checked odd)
    (λ reason is. is))
