use Rattle.std.proofs.Common.{map, string_bytes}
use Rattle.drawing.proofs.Sheets.{made_draws}
use Rattle.drawing.proofs.sheet.draw.Goals as goal

pub returns-clause-back : goal.returns-clause-back
returns-clause-back c = λ n. made_draws string_bytes c.args.places.now (map string_bytes c.args.names.now) c.to_string.result c.to_string.ensures.ok n
