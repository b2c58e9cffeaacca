use Rattle.std.proofs.Common.{◌≡◌, ℕ, ◌/◌, ◌^◌, ◌<◌, ◌≤◌, Option, Some, None, sym, ◌∙◌, arith}
use Rattle.std.proofs.Math.Nat.{div-eq_of_lt}
use Rattle.std.proofs.Math.Pow.{pow_mono}
use Rattle.std.specs.Option.{SomeIff, unwrap_or}
use Rattle.draws.proofs.upper.Goals as goal

is_upper : (n shift : ℕ) → n < 2 ^ 64 → (r : Option ℕ) → SomeIff r (shift < 64) (n / 2 ^ shift) → unwrap_or r 0 ≡ n / 2 ^ shift
is_upper n shift fits (Some x) h = h.1
is_upper n shift fits None h =
    let long : 64 ≤ shift = omega (arith, h) in
    let past : 2 ^ 64 ≤ 2 ^ shift = pow_mono {i = 64} long in
    sym (div-eq_of_lt (omega arith))

pub returns : goal.returns
returns c = c.unwrap_or.ensures ∙ is_upper c.args.n c.args.shift (omega arith) c.checked_shr.result c.checked_shr.ensures
