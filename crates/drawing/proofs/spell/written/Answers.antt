use Rattle.std.proofs.Common.{string_bytes}
use Rattle.drawing.proofs.RoundTrip.{made_means}
use Rattle.drawing.proofs.spell.written.Goals as goal

pub returns-clause-back : goal.returns-clause-back
returns-clause-back c = λ h. made_means string_bytes c.args.name.now c.to_string.result c.to_string.ensures.ok h
