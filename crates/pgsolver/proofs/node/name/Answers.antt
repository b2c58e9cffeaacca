use Rattle.std.proofs.Common.{◌≡◌, ◌+◌, Some, None, Ok, Err, eqb, take, sym, ap, ◌∙◌, rules, tests}
use Rattle.std.proofs.lemmas.Iterator.{YieldsList-from_slice}
use Rattle.std.proofs.lemmas.Iterator.Search.{position_from_yields_List}
use Rattle.std.proofs.lemmas.List.{take_rest}
use Rattle.pgsolver.specs.Form.{name_on, name_up_to}
use Rattle.pgsolver.proofs.node.name.Goals as goal

pub returns-in_err-n : goal.returns-in_err-n
returns-in_err-n c =
    let rest = c.in-Some.rest.now in
    let first = position_from_yields_List (λ b. eqb b 34) _ _ c.position-closing.result c.position-closing.ensures.ran (YieldsList-from_slice rest (cc)) (λ x b q k. search (rules, tests)) in
    let none : c.position-closing.result ≡ None = search rules in
    let wrong : c.from_residual.result ≡ Err c.at.result = search rules in
    rw (wrong, c.at.ensures) (ap (name_on c.args.text.now) (sym c.in-Some.ensures) ∙ ap (name_up_to rest) (sym first ∙ none))

pub returns : goal.returns
returns c =
    let rest = c.in-Some.rest.now in
    let n = c.in_ok-n.n in
    let first = position_from_yields_List (λ b. eqb b 34) _ _ c.position-closing.result c.position-closing.ensures.ran (YieldsList-from_slice rest (cc)) (λ x b q k. search (rules, tests)) in
    let some : c.position-closing.result ≡ Some n = search rules in
    ap (name_on c.args.text.now) (sym c.in-Some.ensures) ∙ ap (name_up_to rest) (sym first ∙ some) ∙ ap (λ l. Ok (take n rest, l)) (sym (take_rest rest (n + 1)))
