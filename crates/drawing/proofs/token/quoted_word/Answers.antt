use Rattle.std.proofs.Common.{◌≡◌, false, Some, IsUtf8, ap, sym, ◌∙◌, subst, arith}
use Rattle.drawing.specs.Form.{closing}
use Rattle.drawing.proofs.Tokens.{cut_closing, cut_closed}
use Rattle.drawing.proofs.token.quoted_word.Goals as goal

pub split_at-requires : goal.split_at-requires
split_at-requires c =
    let whole = c.as_bytes.ensures.value in
    let found : c.closing_quote.result ≡ Some c.in_ok-n.n = grind arith in
    cut_closing c.args.text.now _ (subst IsUtf8 whole c.as_bytes.ensures.utf8) (ap (closing false) (sym whole) ∙ sym c.closing_quote.ensures ∙ found)

pub split_at-requires-2 : goal.split_at-requires-2
split_at-requires-2 c =
    let whole = c.as_bytes.ensures.value in
    let found : c.closing_quote.result ≡ Some c.in_ok-n.n = grind arith in
    cut_closed c.args.text.now _ (subst IsUtf8 whole c.as_bytes.ensures.utf8) (ap (closing false) (sym whole) ∙ sym c.closing_quote.ensures ∙ found)
