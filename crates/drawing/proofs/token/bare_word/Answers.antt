use Rattle.std.proofs.Common.{ap, ◌∙◌}
use Rattle.std.specs.List.{position_or_len}
use Rattle.drawing.specs.Form.{stops}
use Rattle.drawing.proofs.Tokens.{cut_stop}
use Rattle.drawing.proofs.token.bare_word.Goals as goal

pub split_at-requires : goal.split_at-requires
split_at-requires c = cut_stop _ _ (c.word_len.ensures ∙ ap (position_or_len stops) c.as_bytes.ensures.value)
