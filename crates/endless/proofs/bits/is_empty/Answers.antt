use Rattle.std.proofs.Common.{◌≡◌, rules, tests, arith}
use Rattle.std.proofs.lemmas.Iterator.{YieldsList-from_slice, cases_from_all}
use Rattle.endless.proofs.Scans.{empty_words}
use Rattle.endless.proofs.bits.is_empty.Goals as goal

pub returns : goal.returns
returns c =
    empty_words c.args.set.now c.all.result (λ k. omega (arith, c.type_inv.set k))
    (cases_from_all _ _ c.all.result (λ w. w ≡ 0) (λ w. w ≡ 0 → ⊥) c.all.ensures.ran (YieldsList-from_slice c.args.set.now cc) (λ x q k. search (rules, tests)) (λ x q k. search (rules, tests)))
