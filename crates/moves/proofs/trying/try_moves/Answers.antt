use Rattle.std.proofs.Common.{◌≡◌, length, ltb, sym, ap, ◌∙◌, subst, arith}
use Rattle.endless.specs.Games.{Game, Reads}
use Rattle.moves.specs.Led.{led}
use Rattle.moves.proofs.Avoiding.{led_long, led_game, reads_answer}
use Rattle.moves.proofs.trying.try_moves.Goals as goal

pub known-game-requires : goal.known-game-requires
known-game-requires c =
    let s = c.args.solved in
    let h : Game = led s.places.now s.answer.now (length s.places.now) in
    (h, subst (λ w. Reads w h) (sym c.lead.ensures) (reads_answer s.reads c.requires.answer))

pub new-view-requires : goal.new-view-requires
new-view-requires c =
    let s = c.args.solved in
    let same = led_game s.reads c.requires.answer c.lead.ensures c.known-game.ensures in
    omega (arith, led_long s.places.now s.answer.now same, c.len-places.ensures.len, c.split_at_mut-starts.ensures.front_len, c.as_chunks_mut-starts.ensures.front_len)

pub invariant_of-led : goal.invariant_of-led
invariant_of-led c =
    let s = c.args.solved in
    let same = led_game s.reads c.requires.answer c.lead.ensures c.known-game.ensures in
    let many : c.len.result ≡ length c.new-view.result = omega (arith, led_long s.places.now s.answer.now same, c.len.ensures.len, ap length c.new-view.ensures) in
    record { are = λ j. c.fill.ensures.are j ∙ ap (ltb j) many; many = c.fill.ensures.many ∙ many; wide = omega (arith, many, c.len.ensures.len, c.len-places.ensures.len, c.div_ceil-width.ensures, c.split_at_mut-all.ensures.front_len) }

pub try_led-requires-clause-led : goal.try_led-requires-clause-led
try_led-requires-clause-led c = let s = c.args.solved in c.new-view.ensures ∙ led_game s.reads c.requires.answer c.lead.ensures c.known-game.ensures
