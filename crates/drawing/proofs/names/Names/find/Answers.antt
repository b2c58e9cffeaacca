use Rattle.std.proofs.Common.{sym, ap, ◌∙◌}
use Rattle.drawing.specs.Reading.{index_of}
use Rattle.drawing.proofs.Indices.{index_is_position}
use Rattle.drawing.proofs.names.Names.find.Goals as goal

pub returns-in_err-get_index_of : goal.returns-in_err-get_index_of
returns-in_err-get_index_of c = c.from_residual.ensures ∙ sym c.in_err-get_index_of.was ∙ c.get_index_of.ensures.index ∙ sym (index_is_position c.args.name.now c.self.inside.names.keys) ∙ ap (index_of c.args.name.now) c.self.view_is

pub returns : goal.returns
returns c = sym c.in_ok-get_index_of.was ∙ c.get_index_of.ensures.index ∙ sym (index_is_position c.args.name.now c.self.inside.names.keys) ∙ ap (index_of c.args.name.now) c.self.view_is
