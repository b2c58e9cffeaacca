use Rattle.std.proofs.Common.{[], ◌∷◌, ◌++◌, refl, subst, rules}
use lib.Utf8.{encode}
use Rattle.std.specs.Fmt.{HasWritten}
use Rattle.std.specs.Str.Iter.{chars_rest}
use Rattle.std.proofs.Output.{has_written_append}
use Rattle.drawing.specs.Spelling.{escaped, marked}
use Rattle.drawing.proofs.Spells.{escaped_pushed, escaped_over}
use Rattle.drawing.proofs.spell.QuotedDisplay.fmt.Goals as goal

pub loop-c-preserved : goal.loop-c-preserved
loop-c-preserved g c =
    let so_far = c.loop-c.invariant in (
      so_far.0 ++ marked c.in-Some.c,
      escaped_pushed (escaped c.args.self.now.0.now) so_far.0 (chars_rest c.loop-c.c-iterator) so_far.1 c.in-Some.c (chars_rest c.next.new.self) _ c.in-Some.ensures.steps.0 refl,
      λ p. has_written_append _ _ _ _ _ _ (so_far.2 p) (search rules),
    )

pub returns-clause-writes : goal.returns-clause-writes
unfolding encode
returns-clause-writes g c = λ p ok.
    let so_far = c.loop-c.invariant in
    let all = escaped_over (escaped c.args.self.now.0.now) so_far.0 (chars_rest c.loop-c.c-iterator) so_far.1 c.in-None.ensures.steps.0.0 in
    let first = c.in_ok-write_char.ensures.writes p refl in
    let name = so_far.2 first.plain in
    let last = c.write_char-2.ensures.writes name.plain ok in
    subst (λ l. HasWritten g.W.Write.write_str_gives c.args.f.now (34 ∷ (l ++ (34 ∷ []))) c.write_char-2.new.self) all (has_written_append _ _ _ _ _ _ first (has_written_append _ _ _ _ _ _ name last))
