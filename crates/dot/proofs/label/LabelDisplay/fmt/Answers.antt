use Rattle.std.proofs.Common.{◌++◌, refl, rules}
use Rattle.std.specs.Str.Iter.{chars_rest}
use Rattle.std.proofs.Output.{has_written_append}
use Rattle.dot.specs.Labels.{escaped, marked}
use Rattle.dot.proofs.Labels.{escaped_pushed}
use Rattle.dot.proofs.label.LabelDisplay.fmt.Goals as goal

pub loop-c-preserved : goal.loop-c-preserved
loop-c-preserved g c =
    let so_far = c.loop-c.invariant in (
      so_far.0 ++ marked c.in-Some.c,
      escaped_pushed (escaped c.args.self.now.0.now) so_far.0 (chars_rest c.loop-c.c-iterator) so_far.1 c.in-Some.c (chars_rest c.next.new.self) _ c.in-Some.ensures.steps.0 refl,
      λ p. has_written_append _ _ _ _ _ _ (so_far.2 p) (search rules),
    )
