use Rattle.std.proofs.Common.{◌≡◌, List, length, vec_items, sym, ap, subst, arith}
use Rattle.std.proofs.lemmas.Result.{IfOk-at_ok}
use Rattle.std.proofs.lemmas.Bool.{eqb-false}
use Rattle.pgsolver.specs.Form.{Entry, entries}
use Rattle.pgsolver.specs.Read.{ReadAll}
use Rattle.pgsolver.specs.Listed.{Assembles, Assembled}
use Rattle.pgsolver.proofs.Assembling.{kept, listed}
use Rattle.pgsolver.proofs.Fines.{entries_good}
use Rattle.pgsolver.proofs.read.Goals as goal

pub assemble-requires-clause-fine : goal.assemble-requires-clause-fine
assemble-requires-clause-fine c =
    let nodes = vec_items c.in_ok-nodes.nodes in
    let said = subst (ReadAll (entries c.args.text.now)) (kept c.read_text.result c.map_err.result c.in_ok-nodes.nodes _ c.map_err.ensures.cases c.map_err.ensures.variant c.in_ok-nodes.was) c.read_text.ensures in
    rw c.deref.ensures.value ((entries_good c.args.text.now nodes said).0)

pub assemble-requires-clause-few : goal.assemble-requires-clause-few
assemble-requires-clause-few c =
    let nodes = vec_items c.in_ok-nodes.nodes in
    let said = subst (ReadAll (entries c.args.text.now)) (kept c.read_text.result c.map_err.result c.in_ok-nodes.nodes _ c.map_err.ensures.cases c.map_err.ensures.variant c.in_ok-nodes.was) c.read_text.ensures in
    omega (arith, (entries_good c.args.text.now nodes said).1, ap length c.deref.ensures.value)

pub returns-clause-listed : goal.returns-clause-listed
returns-clause-listed c =
    let es : List Entry = vec_items c.in_ok-nodes.nodes in
    let said = subst (ReadAll (entries c.args.text.now)) (kept c.read_text.result c.map_err.result c.in_ok-nodes.nodes _ c.map_err.ensures.cases c.map_err.ensures.variant c.in_ok-nodes.was) c.read_text.ensures in
    let some : length es ≡ 0 → ⊥ = λ e. eqb-false _ 0 (sym c.if-is_empty.ensures) (omega (arith, e, c.in_ok-nodes.nodes.ok.0)) in
    let made = subst (Assembled c.deref.result.now) c.in-Ok.is c.assemble.ensures in
    let places = IfOk-at_ok _ c.in_ok-places.was c.name_places.ensures in
    listed c.args.text.now es _ _ _ said ((entries_good c.args.text.now es said).1) some
    (subst (λ l. Assembles l (vec_items c.in-Ok.words)) c.deref.ensures.value made)
    places.ids
    places.names
