use Rattle.std.proofs.Common.{◌≡◌, IsUtf8, drop, None, lit<, sym, ap, ◌∙◌, subst}
use Rattle.std.specs.List.{prefix_len}
use Rattle.std.proofs.lemmas.Bool.{eqb-false}
use Rattle.std.proofs.lemmas.Result.{err_from_is_err_and}
use Rattle.std.proofs.lemmas.Str.Pattern.{strip_prefix_char}
use Rattle.drawing.specs.Form.{blank, next_dark}
use Rattle.drawing.proofs.Tokens.{cut_blank}
use Rattle.drawing.proofs.Lexes.{dark_bare}
use Rattle.drawing.proofs.token.next_token.Goals as goal

pub split_at-requires : goal.split_at-requires
split_at-requires c =
    let whole = c.as_bytes.ensures.value in
    cut_blank c.args.line.now _ (subst IsUtf8 whole c.as_bytes.ensures.utf8) (c.blank_len.ensures ∙ ap (prefix_len blank) whole)

pub returns-in_err-word-in-None : goal.returns-in_err-word-in-None
returns-in_err-word-in-None c =
    let text = c.split_at.result.1.now in
    let rest : text ≡ drop (prefix_len blank c.args.line.now) c.args.line.now = c.split_at.ensures.back ∙ ap (λ n. drop n c.args.line.now) (c.blank_len.ensures ∙ ap (prefix_len blank) c.as_bytes.ensures.value) in
    let p = err_from_is_err_and c.from_residual-in_err-word-in-None.result c.from_residual-in_err-word-in-None.ensures.1 in
    let bare = dark_bare text (eqb-false _ 0 (sym c.if-is_empty.ensures)) (strip_prefix_char 35 text None c.if-starts_with.ensures.cases (lit< tt)) (strip_prefix_char 58 text None c.in_default.ensures.cases (lit< tt)) (strip_prefix_char 34 text None c.in-None.ensures.cases (lit< tt)) in
    rw (p.1, p.2) (ap next_dark (sym rest) ∙ bare ∙ c.in_err-word-in-None.ensures)
