use Rattle.std.proofs.Common.{ap, ◌∙◌}
use Rattle.drawing.specs.Lexed.{meant}
use Rattle.drawing.specs.Reading.{index_of}
use Rattle.drawing.proofs.Lookups.{looked_up}
use Rattle.drawing.proofs.answer.Line.find.Goals as goal

pub returns : goal.returns
returns c =
    looked_up c.args.self.number c.args.self.names.now (meant c.args.word) c.in_ok-name.name c.find.result c.in_ok-name.ensures
    (c.find.ensures ∙ ap (λ x. index_of x c.args.self.names.now) (c.as_str.ensures.value ∙ c.in_ok-name.ensures)) c.ok_or.result c.ok_or.ensures.value
