use Rattle.std.proofs.Common.{[], ◌++◌, map, ap, ◌∙◌, rules}
use lib.Utf8.{encode}
use Rattle.std.specs.Str.Iter.{chars_rest}
use Rattle.std.proofs.Output.{has_written_append}
use Rattle.pgsolver.specs.Written.{single}
use Rattle.pgsolver.proofs.Writing.{single_pushed}
use Rattle.pgsolver.proofs.write.write_quoted.Goals as goal

pub loop-c-init : goal.loop-c-init
loop-c-init g c = ([], ap (λ r. map single (chars_rest r)) c.into_iter-c-iterator.ensures.into_iter_gives ∙ ap (map single) c.chars-c-items.ensures.rest, search rules)

pub loop-c-preserved : goal.loop-c-preserved
loop-c-preserved g c =
    let so_far = c.loop-c.invariant in (
      so_far.0 ++ encode c.single.result,
      single_pushed c.args.name.now so_far.0 (chars_rest c.loop-c.c-iterator) so_far.1 c.in-Some.c _ (chars_rest c.next.new.self) c.in-Some.ensures.steps.0 c.single.ensures,
      λ p. has_written_append _ _ _ _ _ _ (so_far.2 p) (search rules),
    )
