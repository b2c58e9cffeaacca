-- That 'not lost' says something: it cannot be denied that a play has a heaviest weight, and by a plan that wins that is of the side's kind.
use Rattle.std.proofs.Common.{ℕ, zero, suc, ◌<◌, ◌≤◌, max, T, arith}
use Rattle.endless.specs.Games.{Game, Play, weight}
use Rattle.endless.specs.Says.{WeaklyHeaviest, SomeHeaviest, PlanWins}
use Rattle.endless.proofs.Places.{weight_below}
use Rattle.endless.proofs.Plays.{stays, heaviest_kind}
use Rattle.endless.proofs.Rounds.{rounds_are_won}

-- if from some moment on all weights are below a bound: either the one under it keeps coming, or from some moment on all are below that
descend : (g : Game) (f : Play) → ((k : ℕ) → WeaklyHeaviest g f k → ⊥) → (bound m : ℕ) → ((i : ℕ) → m ≤ i → weight g (f i) < bound) → ⊥
descend g f none zero m h = omega (arith, h m (omega arith))
descend g f none (suc b) m h = none b (record {
  from = m;
  none_heavier = λ i l. omega (arith, h i l);
  never_last = λ i gone. descend g f none b (max m i) (λ j l. omega (arith, h j (omega arith), gone j (omega arith)));
})

pub some_heaviest : SomeHeaviest
some_heaviest s g f r p none = descend g f none 256 0 (λ i l. weight_below r (f i))

pub plan_wins : PlanWins
plan_wins s g w plan won f k r l wins x p b h = heaviest_kind g w plan f k p b (λ i ns c. rounds_are_won s g w plan won (f i) ns r l wins (stays g w plan (λ n. T (won n)) wins.may wins.held f p b x i) c) h
