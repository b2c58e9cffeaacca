use Rattle.std.proofs.Common.{◌≡◌, ◌*◌, eqb, get_or, Option, sym, subst, ap₂}
use Rattle.endless.specs.declared.side.Side.{Side}
use Rattle.endless.specs.Parts.{wanted, mark}
use Rattle.endless.proofs.Working.{side_at}
use Rattle.endless.proofs.gather.is_wanted.Goals as goal

pub returns-in-Some : goal.returns-in-Some
returns-in-Some c =
    subst (λ (w : Option Side). eqb (get_or c.args.out.now (2 * c.args.place) 0) c.from.result ≡ eqb (wanted w c.args.out.now c.args.place) (mark w)) (sym c.in-Some.is)
    (ap₂ eqb (sym (side_at c.args.out.now c.args.place c.requires)) c.from.ensures)
