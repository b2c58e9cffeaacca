use Rattle.std.proofs.Common.{◌≡◌, IsUtf8, drop, lit<, sym, ap, ◌∙◌, subst}
use Rattle.std.specs.List.{prefix_len}
use Rattle.std.specs.Option.{option_map}
use Rattle.std.proofs.lemmas.Option.{MatchOption-at_none}
use Rattle.std.proofs.lemmas.Str.Pattern.{strip_prefix_char}
use Rattle.drawing.specs.Form.{blank}
use Rattle.drawing.specs.Heard.{text_now}
use Rattle.drawing.specs.Telling.{behind_first}
use Rattle.drawing.proofs.Tokens.{cut_blank}
use Rattle.drawing.proofs.Hearing.{no_dash}
use Rattle.drawing.proofs.told.behind_dash.Goals as goal

pub split_at-requires : goal.split_at-requires
split_at-requires c =
    let whole = c.as_bytes.ensures.value in
    cut_blank c.args.text.now _ (subst IsUtf8 whole c.as_bytes.ensures.utf8) (c.blank_len.ensures ∙ ap (prefix_len blank) whole)

pub returns-in_err-rest : goal.returns-in_err-rest
returns-in_err-rest c =
    let rest : c.split_at.result.1.now ≡ drop (prefix_len blank c.args.text.now) c.args.text.now = c.split_at.ensures.back ∙ ap (λ n. drop n c.args.text.now) (c.blank_len.ensures ∙ ap (prefix_len blank) c.as_bytes.ensures.value) in
    ap (option_map text_now) c.from_residual.ensures ∙ sym (no_dash c.split_at.result.1.now (MatchOption-at_none _ _ c.in_err-rest.was (strip_prefix_char 45 c.split_at.result.1.now c.strip_prefix.result c.strip_prefix.ensures.cases (lit< tt)))) ∙ ap behind_first rest
