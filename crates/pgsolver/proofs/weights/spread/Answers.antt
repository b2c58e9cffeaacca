use Rattle.std.proofs.Common.{◌≡◌, ℕ, ◌<◌, true, false, length, refl, ap, ⊎_elim, arith}
use Rattle.std.proofs.lemmas.Bool.{cases_lt}
use Rattle.pgsolver.proofs.Compressing.{spreading_first, spreading_full, spreading_more, spreading_all}
use Rattle.pgsolver.proofs.weights.spread.Goals as goal

pub loop-priority-init : goal.loop-priority-init
loop-priority-init c = spreading_first _ _ _ c.in_ok-left.ensures

pub returns-then-weight-ge-WEIGHTS : goal.returns-then-weight-ge-WEIGHTS
returns-then-weight-ge-WEIGHTS c = spreading_full _ _ _ _ c.loop-priority.invariant _ _ c.in-Some.ensures.value c.in-Some.ensures.least _ refl c.if-weight-ge-WEIGHTS.true

pub loop-priority-preserved : goal.loop-priority-preserved
loop-priority-preserved c = spreading_more _ _ _ _ c.loop-priority.invariant _ _ c.in-Some.ensures.value c.in-Some.ensures.least _ refl (omega (arith, c.if-weight-ge-WEIGHTS.false)) _ _ c.in_ok-insert.ensures.updates c.in-Some.ensures.updates (omega (arith, ap length c.in-Some.ensures.removal))

-- no first entry is taken from a map without entries
no_more : (n : ℕ) → (0 < n → false ≡ true) → n ≡ 0
no_more n h = ⊎_elim (λ l. absurd (let z : false ≡ true = h l in cc)) (λ l. omega arith) (cases_lt 0 n)

pub returns : goal.returns
returns c = spreading_all _ _ _ _ c.loop-priority.invariant (no_more (length c.loop-priority.left.entries) c.in_default.ensures.variant.1)
