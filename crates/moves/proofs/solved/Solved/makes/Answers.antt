use Rattle.std.proofs.Common.{rules, length, get_or, ap, arith}
use Rattle.moves.proofs.Lists.{length_origins, length_targets, origin_below}
use Rattle.moves.proofs.Marks.{makes_here}
use Rattle.moves.proofs.solved.Solved.makes.Goals as goal

pub offset_bounds-self-k : goal.offset_bounds-self-k
offset_bounds-self-k c = let s = c.args.self.now in omega (arith, length_origins 0 s.places.now, ap length s.from_are, c.requires.inside)

pub bounds-self-k : goal.bounds-self-k
bounds-self-k c = let s = c.args.self.now in omega (arith, length_origins 0 s.places.now, ap length s.from_are, c.requires.inside)

pub is_own-requires : goal.is_own-requires
is_own-requires c = let s = c.args.self.now in omega (arith, origin_below s.places.now c.args.k c.requires.inside, ap (λ l. get_or l c.args.k 0) s.from_are)

pub bounds-plan-from : goal.bounds-plan-from
bounds-plan-from c = let s = c.args.self.now in omega (arith, origin_below s.places.now c.args.k c.requires.inside, ap (λ l. get_or l c.args.k 0) s.from_are, c.requires.plans)

pub offset_bounds-self-k-then-is_own : goal.offset_bounds-self-k-then-is_own
offset_bounds-self-k-then-is_own c = let s = c.args.self.now in omega (arith, length_targets s.places.now, ap length s.to_are, c.requires.inside)

pub bounds-self-k-then-is_own : goal.bounds-self-k-then-is_own
bounds-self-k-then-is_own c = let s = c.args.self.now in omega (arith, length_targets s.places.now, ap length s.to_are, c.requires.inside)

pub returns-then-is_own : goal.returns-then-is_own
returns-then-is_own c =
    let s = c.args.self.now in
    makes_here c.args.k c.args.plan.now (ap (λ l. get_or l c.args.k 0) s.from_are) (ap (λ l. get_or l c.args.k 0) s.to_are) (search rules) (search rules)
