use Rattle.std.proofs.Common.{ℕ, get_or, length, ap, sym, ◌∙◌, arith}
use Rattle.std.proofs.lemmas.List.{length-replicate, get_or-replicate}
use Rattle.endless.specs.Graph.{times}
use Rattle.playing.proofs.window.Window.new.Goals as goal

pub invariant_of-result : goal.invariant_of-result
invariant_of-result c =
    let empty = c.in_ok-with_capacity.ensures in
    record {
      roomy = empty.capacity;
      few = omega (arith, empty.len);
      kinds = ap length c.new.ensures ∙ length-replicate {A = ℕ} 256 0;
      tells = λ k h. ap (λ l. get_or l k 0) c.new.ensures ∙ get_or-replicate 256 k 0 0 h ∙ sym (ap (times k) empty.items);
      light = λ k h. ap (times k) empty.items;
    }
