use Rattle.std.proofs.Common.{◌-◌, get_or, refl, arith}
use Rattle.std.proofs.lemmas.Bool.{both_ways}
use Rattle.quotient.specs.Refining.{Same}
use Rattle.quotient.proofs.Chains.{linked_here, linked_next, left_behind}
use Rattle.quotient.proofs.group.find.Goals as goal

pub returns-then-is_same-clause-found : goal.returns-then-is_same-clause-found
returns-then-is_same-clause-found c = (c.loop-link.invariant.within _ (linked_here c.loop-link.link (λ e. omega arith)), c.if-is_same.ensures.same.0 refl)

pub loop-link-preserved : goal.loop-link-preserved
loop-link-preserved c =
    let k = c.loop-link.invariant in
    record {
      low = omega (arith, c.requires.descends (c.loop-link.link - 1), k.low);
      empty = c.is_same.ensures.empty;
      within = λ n l. k.within n (linked_next c.loop-link.link (λ e. omega arith) l);
      left = λ n l s. left_behind (λ j. Same c.args.places.now c.args.parts.now c.args.place (get_or c.args.list.now j 0)) c.loop-link.link (λ e. omega arith) (λ t. both_ways _ c.if-is_same.false (c.is_same.ensures.same.1 t)) s (k.left n l s);
    }
