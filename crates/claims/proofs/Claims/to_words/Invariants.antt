use Rattle.std.proofs.Common.{vec_items}
use Rattle.claims.proofs.Wording.{WordedTo}
use Rattle.claims.proofs.Claims.to_words.Given as goal

abbrev pub invariant-loop-place : goal.invariant-loop-place
invariant-loop-place l = WordedTo l.self (vec_items l.words) l.place
