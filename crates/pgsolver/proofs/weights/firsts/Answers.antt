use Rattle.std.proofs.Common.{◌≡◌, ◌+◌, Bool, true, false, get_or, sym, refl, ◌∙◌, subst, arith}
use Rattle.pgsolver.specs.Table.{IsFullBelow}
use Rattle.pgsolver.proofs.Looking.{Found, found_beyond, found_put, found_popped}
use Rattle.pgsolver.proofs.weights.firsts.Goals.{then-len-gt-MOST_FIRSTS, else-len-gt-MOST_FIRSTS}
use Rattle.pgsolver.proofs.weights.firsts.Goals as goal

pub loop-n-preserved-then-is_beyond : goal.loop-n-preserved-then-is_beyond
loop-n-preserved-then-is_beyond c = found_beyond _ c.loop-n.firsts _ _ c.loop-n.invariant refl (c.is_beyond.ensures.0 c.if-is_beyond.true)

pub loop-n-preserved : goal.loop-n-preserved
loop-n-preserved c =
    let near : IsFullBelow 257 c.loop-n.firsts (get_or c.args.priorities.now c.loop-n.n 0) → ⊥ = λ b. absurd (let z : ◌≡◌ {A = Bool} false true = sym c.if-is_beyond.false ∙ c.is_beyond.ensures.1 b in cc) in
    let put = found_put _ c.loop-n.firsts _ _ c.loop-n.invariant refl near c.add.new.firsts _ refl c.in_ok-add.ensures.0 c.in_ok-add.ensures.1 in
    elim c.if-len-gt-MOST_FIRSTS.branch [
      | then-len-gt-MOST_FIRSTS w ↦ (subst (Found c.args.priorities.now (c.loop-n.n + 1)) (sym w.firsts-is)
          (found_popped _ _ c.add.new.firsts w.pop_last.new.self _ put (omega (arith, w.if-len-gt-MOST_FIRSTS.true, c.len.ensures.len)) w.pop_last.ensures.variant w.pop_last.ensures.greatest w.pop_last.ensures.updates w.pop_last.ensures.len))
      | else-len-gt-MOST_FIRSTS w ↦ (subst (Found c.args.priorities.now (c.loop-n.n + 1)) (sym w.firsts-is) put)
    ]
