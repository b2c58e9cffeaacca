use Rattle.std.proofs.Common.{◌≡◌, ℕ, ◌-◌, length, take, ap, arith}
use Rattle.ends.proofs.Solving.{without_no_game, without_none, without_game}
use Rattle.ends.proofs.without_ends.Goals as goal

pub returns-then-not-is_game : goal.returns-then-not-is_game
returns-then-not-is_game c =
    let len = c.in-Some.len in
    let z : len - 0 ≡ len = omega arith in
    without_no_game c.args.words.now (length c.args.made.now) c.mend.new.made (omega (arith, c.if-made-places.false, c.if-made-places-2.false, c.told-places.ensures))
    (without_none c.args.words.now c.mend.new.made (take (len - 0) c.mend.new.made) len c.in-Some.ensures (ap (λ (k : ℕ). take k c.mend.new.made) z) (λ g r. c.if-not-is_game.ensures.says.1 (g, r)))

pub returns : goal.returns
returns c =
    let len = c.in-Some.len in
    let z : len - 0 ≡ len = omega arith in
    without_game c.args.words.now c.mend.new.made (take (len - 0) c.mend.new.made) len c.in-Some.ensures (ap (λ (k : ℕ). take k c.mend.new.made) z) (c.if-not-is_game.ensures.says.0 tt) (length c.args.made.now)
    (omega (arith, c.if-made-places.false, c.if-made-places-2.false, c.told-places.ensures))
