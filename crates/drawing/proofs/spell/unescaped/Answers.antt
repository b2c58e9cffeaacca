use Rattle.std.proofs.Common.{false, string_bytes}
use Rattle.std.specs.Str.Iter.{chars_rest}
use Rattle.drawing.specs.Form.{plain}
use Rattle.drawing.proofs.Spells.{plain_pushed, plain_passed}
use Rattle.drawing.proofs.spell.unescaped.Goals as goal

pub loop-c-preserved-in-Continue-1 : goal.loop-c-preserved-in-Continue-1
loop-c-preserved-in-Continue-1 c = plain_pushed (plain false c.args.raw.now) (string_bytes c.loop-c.name) (chars_rest c.loop-c.c-iterator) _ c.loop-c.invariant c.in-Some.c _ _ c.in-Some.ensures.steps.0 c.is_escape-escaped.ensures _ c.if-not-escaped.true c.in_ok-push.ensures.bytes

pub loop-c-preserved : goal.loop-c-preserved
loop-c-preserved c = plain_passed (plain false c.args.raw.now) (string_bytes c.loop-c.name) (chars_rest c.loop-c.c-iterator) _ c.loop-c.invariant c.in-Some.c _ _ c.in-Some.ensures.steps.0 c.is_escape-escaped.ensures c.if-not-escaped.false
