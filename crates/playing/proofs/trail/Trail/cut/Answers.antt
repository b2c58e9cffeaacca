use Rattle.std.proofs.Common.{◌++◌, ap, ◌∙◌, rules}
use Rattle.playing.specs.Windows.{latest}
use Rattle.playing.proofs.Windows.{latest-latest_append}
use Rattle.playing.proofs.trail.Trail.cut.Goals as goal

pub invariant_of-self : goal.invariant_of-self
invariant_of-self c =
    let front = c.as_slices.result.0.now in
    let rest = c.as_slices.result.1.now in
    let first = c.push_all.ensures ∙ ap (λ l. latest 1000 (l ++ front)) c.in_ok-window.ensures in
    record {
      few = search rules;
      holds = c.push_all-2.ensures ∙ ap (λ l. latest 1000 (l ++ rest)) first ∙ latest-latest_append 1000 front rest ∙ ap (latest 1000) c.as_slices.ensures.items;
      few_choices = c.self.invariant.few_choices;
    }
