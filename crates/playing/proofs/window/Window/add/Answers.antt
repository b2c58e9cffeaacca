use Rattle.std.proofs.Common.{deque_items, length, ap, ◌∙◌, arith}
use Rattle.std.proofs.lemmas.List.{length-set}
use Rattle.endless.proofs.Sources.{times_le}
use Rattle.playing.proofs.Windows.{light_push, tells_push}
use Rattle.playing.proofs.window.Window.add.Goals as goal

pub add-requires : goal.add-requires
add-requires c = omega (arith, c.self.invariant.tells c.args.weight, times_le c.args.weight (deque_items c.self.inside.weights))

pub invariant_of-self : goal.invariant_of-self
invariant_of-self c =
    let w = c.self.inside in
    let weights = deque_items w.weights in
    let shorter = ap length c.self.view_is in
    record {
      roomy = omega (arith, c.self.invariant.roomy, c.push_back_reserved.ensures.capacity);
      few = omega (arith, c.push_back_reserved.ensures.len, shorter);
      kinds = ap length c.add.ensures ∙ length-set w.counts c.args.weight _ ∙ c.self.invariant.kinds;
      tells = rw (c.push_back_reserved.ensures.items, c.add.ensures) (tells_push weights c.args.weight (omega arith) w.counts c.self.invariant.kinds c.self.invariant.tells);
      light = rw c.push_back_reserved.ensures.items (light_push weights c.args.weight (omega arith) c.self.invariant.light);
    }
