use Rattle.std.proofs.Common.{ℕ, ◌+◌, ◌*◌, ◌/◌, List, [], length, get_or, ap, ◌∙◌, arith}
use Rattle.allplans.specs.declared.answer.Claim.{Claim}
use Rattle.allplans.proofs.Claims.{paired_first, paired_second, told_more}
use Rattle.allplans.proofs.answer.Answer.read.Goals as goal

pub loop-winner-preserved : goal.loop-winner-preserved
loop-winner-preserved c =
    let words = c.args.words.now in
    let i = c.loop-winner.winner-index in
    record {
      count = omega (arith, c.in_ok-push.ensures.len, c.loop-winner.invariant.count);
      winner =
          told_more (λ (q : Claim). q.winner) c.loop-winner.claims.items c.push.new.self.items _ i (λ (v : ℕ). get_or words (2 * v) 0) (omega (arith, c.loop-winner.claims.ok.0)) c.in_ok-push.ensures.items
          (ap (λ (p : List (List ℕ)). get_or (get_or p i []) 0 0) c.as_chunks.ensures.front ∙ paired_first (length words / 2) words i [] (omega (arith, c.as_chunks.ensures.front_len)))
          c.loop-winner.invariant.winner;
      planned =
          told_more (λ (q : Claim). q.goes) c.loop-winner.claims.items c.push.new.self.items _ i (λ (v : ℕ). get_or words (2 * v + 1) 0) (omega (arith, c.loop-winner.claims.ok.0)) c.in_ok-push.ensures.items
          (ap (λ (p : List (List ℕ)). get_or (get_or p i []) 1 0) c.as_chunks.ensures.front ∙ paired_second (length words / 2) words i [] (omega (arith, c.as_chunks.ensures.front_len)))
          c.loop-winner.invariant.planned;
    }
