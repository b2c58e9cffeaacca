use Rattle.std.proofs.Common.{refl, rules}
use Rattle.dot.proofs.Plans.{planned_here}
use Rattle.dot.proofs.picture.Picture.is_planned.Goals as goal

pub returns-then-eq : goal.returns-then-eq
returns-then-eq c = planned_here _ (λ x y. refl) c.args.self.places.now c.args.self.answer.now c.args.n c.args.m c.eq-then-eq.result c.goes_to.result (search rules) c.goes_to.ensures c.eq-then-eq.ensures
