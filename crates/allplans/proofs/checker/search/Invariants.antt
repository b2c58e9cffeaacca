use Rattle.std.proofs.Common.{◌≡◌, ◌+◌, length, deque_items}
use Rattle.allplans.specs.Sets.{unknown}
use Rattle.allplans.proofs.checker.search.Given as goal

abbrev pub invariant-loop-to : goal.invariant-loop-to
invariant-loop-to l = length (deque_items l.queue) + unknown l.steps ≡ length (deque_items l.initial.queue) + unknown l.initial.steps

abbrev pub decreases-loop-place : goal.decreases-loop-place
decreases-loop-place l = length (deque_items l.queue) + unknown l.steps
