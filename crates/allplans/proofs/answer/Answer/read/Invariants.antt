use Rattle.std.proofs.Common.{◌≡◌, ℕ, ◌+◌, ◌*◌, ◌<◌, get_or, vec_items, vec_len}
use Rattle.allplans.specs.Claims.{plan, winners}
use Rattle.allplans.proofs.answer.Answer.read.Given as goal

abbrev pub invariant-loop-winner : goal.invariant-loop-winner
invariant-loop-winner l = record {
  count : vec_len l.claims ≡ l.winner-index;
  winner : (v : ℕ) → v < l.winner-index → get_or (winners (vec_items l.claims)) v 0 ≡ get_or l.words (2 * v) 0;
  planned : (v : ℕ) → v < l.winner-index → get_or (plan (vec_items l.claims)) v 0 ≡ get_or l.words (2 * v + 1) 0;
}
