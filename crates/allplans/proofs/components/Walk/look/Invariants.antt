use Rattle.std.proofs.Common.{◌≡◌, ◌≤◌}
use Rattle.allplans.specs.Walks.{unmet}
use Rattle.allplans.proofs.components.Walk.look.Given as goal

abbrev pub invariant-loop-passed : goal.invariant-loop-passed
invariant-loop-passed l = record {
  path : l.self.path ≡ l.initial.self.path;
  unmet : unmet l.self.marks.items ≤ unmet l.initial.self.marks.items;
}
