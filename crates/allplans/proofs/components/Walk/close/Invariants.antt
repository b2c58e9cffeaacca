use Rattle.std.proofs.Common.{◌≡◌, ◌≤◌, vec_len}
use Rattle.allplans.specs.Walks.{unmet}
use Rattle.allplans.proofs.components.Walk.close.Given as goal

abbrev pub invariant-loop-member : goal.invariant-loop-member
invariant-loop-member l = record {
  path : l.self.path ≡ l.initial.self.path;
  unmet : unmet l.self.marks.items ≤ unmet l.initial.self.marks.items;
}

abbrev pub decreases-loop-member : goal.decreases-loop-member
decreases-loop-member l = vec_len l.self.waiting
