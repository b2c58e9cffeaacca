use Rattle.std.proofs.Common.{◌≡◌, ◌+◌, ◌*◌, ◌≤◌, length, sym, ap, subst, arith}
use Rattle.std.proofs.lemmas.Bool.{leb-true, leb-false}
use Rattle.std.proofs.lemmas.Result.{err_from_is_err_and}
use Rattle.endless.specs.Games.{Game}
use Rattle.quotient.specs.Carrying.{Carries}
use Rattle.quotient.proofs.Answered.{few_post, no_game_post, out_full_post, game_long, always_merged, always_solved, merges_of, of_front, front_long, done_post}
use Rattle.quotient.proofs.merged.solve_merged.Goals as goal

pub returns-then-not-is_enough : goal.returns-then-not-is_enough
returns-then-not-is_enough c = few_post (omega (arith, leb-false _ _ (sym c.if-not-is_enough.ensures)))

pub returns-in_default : goal.returns-in_default
returns-in_default c = no_game_post (leb-true _ _ (sym c.if-not-is_enough.ensures)) c.in_default.ensures

pub returns-in_err-out_room : goal.returns-in_err-out_room
returns-in_err-out_room c =
    let p = err_from_is_err_and c.from_residual.result c.from_residual.ensures.1 in
    rw (p.1, p.2) (out_full_post (leb-true _ _ (sym c.if-not-is_enough.ensures)) c.in-Some.ensures (omega (arith, c.in_err-out_room.ensures, c.len.ensures.len)))

pub returns-in_err-len : goal.returns-in_err-len
returns-in_err-len c =
    absurd (always_merged _ c.in-Some.ensures (omega (arith, leb-true _ _ (sym c.if-not-is_enough.ensures), game_long c.in-Some.ensures, c.len-places.ensures.len, c.split_at_mut-to.ensures.back_len, c.split_at_mut-smaller.ensures.back_len, c.split_at_mut-answer.ensures.back_len))
    (omega (arith, c.len-places.ensures.len, c.split_at_mut-to.ensures.front_len)) (omega (arith, c.split_at_mut-smaller.ensures.front_len)) c.in_err-len.ensures)

pub returns-in_err-solve : goal.returns-in_err-solve
returns-in_err-solve c =
    let m = merges_of c.in-Some.ensures c.in_ok-len.ensures.says in
    let enough : 65536 + 6 * length c.args.words.now ≤ length c.args.work.now = leb-true _ _ (sym c.if-not-is_enough.ensures) in
    let front = front_long c.in-Some.ensures m (omega (arith, c.split_at_mut-smaller.ensures.front_len)) in
    absurd (always_solved _ m.reads (omega (arith, front, enough, game_long c.in-Some.ensures, c.len-places.ensures.len, c.split_at_mut-to.ensures.back_len, c.split_at_mut-smaller.ensures.back_len, c.split_at_mut-answer.ensures.back_len))
    (omega (arith, m.fewer, c.len-places.ensures.len, c.split_at_mut-answer.ensures.front_len)) (of_front c.merge.new.smaller c.in_ok-len.len c.in_err-solve.ensures))

pub carry_back-requires-clause-answer : goal.carry_back-requires-clause-answer
carry_back-requires-clause-answer c = λ n h.
    let m = merges_of c.in-Some.ensures c.in_ok-len.ensures.says in
    omega (arith, m.merged.inside n (omega (arith, ap length c.new-places.ensures)), m.fewer, c.len-places.ensures.len, c.split_at_mut-answer.ensures.front_len)

pub returns : goal.returns
returns c =
    let m = merges_of c.in-Some.ensures c.in_ok-len.ensures.says in
    let is : c.new-places.result ≡ c.in-Some.game = c.new-places.ensures in
    done_post (leb-true _ _ (sym c.if-not-is_enough.ensures)) c.in-Some.ensures (omega (arith, c.in_ok-out_room.ensures, c.len.ensures.len)) (omega arith) m (of_front c.merge.new.smaller c.in_ok-len.len c.in_ok-solve.ensures)
    (subst (λ (g : Game). Carries g c.merge.new.to c.solve.new.out c.args.out.now (length g) c.carry_back.new.out) is c.carry_back.ensures)
