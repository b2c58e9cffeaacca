use Rattle.std.proofs.Common.{◌≡◌, ◌∷◌, ◌++◌, deque_items, length, ap, ◌∙◌, subst, arith}
use Rattle.std.proofs.lemmas.List.{length-set}
use Rattle.std.specs.Option.{option_to_list}
use Rattle.endless.proofs.Sources.{times_le}
use Rattle.playing.specs.Windows.{less, Tells, Light}
use Rattle.playing.proofs.Windows.{light_push, light_pop, tells_push, tells_pop}
use Rattle.playing.proofs.window.Window.exchange.Goals as goal

pub exchange-requires-clause-fits : goal.exchange-requires-clause-fits
exchange-requires-clause-fits c = omega (arith, c.self.invariant.tells c.args.weight, times_le c.args.weight (deque_items c.self.inside.weights))

pub invariant_of-self : goal.invariant_of-self
invariant_of-self c =
    let w = c.self.inside in
    let oldest = c.unwrap-oldest.result in
    let rest = deque_items c.pop_front.new.self in
    let whole : deque_items w.weights ≡ oldest ∷ rest = c.pop_front.ensures.items ∙ ap (λ o. option_to_list o ++ rest) c.unwrap-oldest.ensures in
    let one = ap (λ o. length (option_to_list o)) c.unwrap-oldest.ensures in
    let kinds : length (less oldest w.counts) ≡ 256 = length-set w.counts oldest _ ∙ c.self.invariant.kinds in
    let tells : Tells (less oldest w.counts) rest = tells_pop oldest rest w.counts c.self.invariant.kinds (omega arith) (subst (Tells w.counts) whole c.self.invariant.tells) in
    record {
      roomy = omega (arith, c.self.invariant.roomy, c.pop_front.ensures.capacity, c.push_back_reserved.ensures.capacity);
      few = omega (arith, c.self.invariant.few, c.pop_front.ensures.len, c.push_back_reserved.ensures.len, one);
      kinds = ap length c.exchange.ensures ∙ length-set (less oldest w.counts) c.args.weight _ ∙ kinds;
      tells = rw (c.push_back_reserved.ensures.items, c.exchange.ensures) (tells_push rest c.args.weight (omega arith) (less oldest w.counts) kinds tells);
      light = rw c.push_back_reserved.ensures.items (light_push rest c.args.weight (omega arith) (light_pop oldest rest (subst Light whole c.self.invariant.light)));
    }
