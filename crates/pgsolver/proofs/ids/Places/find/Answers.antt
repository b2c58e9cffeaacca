use Rattle.std.proofs.Common.{Some, sym, ◌∙◌, subst}
use Rattle.pgsolver.specs.Table.{Finds}
use Rattle.pgsolver.proofs.Writes.{found_at}
use Rattle.pgsolver.proofs.ids.Places.find.Goals as goal

pub returns : goal.returns
returns c =
    let found = subst (Finds c.self.inside.ids.keys c.args.id) (sym c.get_index_of.ensures.index ∙ c.in_ok-get_index_of.was) (found_at c.self.inside.ids.keys c.args.id) in
    subst (λ l. Finds l c.args.id (Some c.in_ok-get_index_of.field-0)) c.self.view_is found
