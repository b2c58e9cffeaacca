use Rattle.std.proofs.Common.{◌≡◌, ℕ, ◌-◌, length, take, sym, ap, arith}
use Rattle.std.proofs.lemmas.Bool.{leb-true, leb-false}
use Rattle.std.proofs.lemmas.List.{length-take-le}
use Rattle.ends.proofs.Solving.{few_post, no_game_post, ends_post}
use Rattle.ends.proofs.solve_with_ends.Goals as goal

pub returns-then-not-is_enough : goal.returns-then-not-is_enough
returns-then-not-is_enough c = few_post c.args.words.now (length c.args.work.now) c.args.out.now (omega (arith, leb-false _ _ (sym c.if-not-is_enough.ensures), c.told-places.ensures))

pub returns-in_default : goal.returns-in_default
returns-in_default c = no_game_post c.args.words.now (length c.args.work.now) c.args.out.now (omega (arith, leb-true _ _ (sym c.if-not-is_enough.ensures), c.told-places.ensures)) c.in_default.ensures

pub returns : goal.returns
returns c =
    let m = c.in-Some.ensures in
    let len = c.in-Some.len in
    let enough = leb-true _ _ (sym c.if-not-is_enough.ensures) in
    let z : len - 0 ≡ len = omega arith in
    let long = length-take-le (len - 0) c.mend.new.made (omega (arith, m.within)) in
    ends_post c.args.words.now c.mend.new.made (take (len - 0) c.mend.new.made) len m (ap (λ (k : ℕ). take k c.mend.new.made) z) c.args.out.now c.solve.new.out
    (length c.args.work.now) _ c.solve.result (omega (arith, enough, c.told-places.ensures)) (omega (arith, enough, c.told-places.ensures, long, m.long, c.split_at_mut-made.ensures.back_len)) c.solve.ensures
