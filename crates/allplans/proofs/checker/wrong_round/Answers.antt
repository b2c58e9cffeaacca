use Rattle.allplans.specs.Claims.{plan, winners}
use Rattle.allplans.specs.Sides.{side_word}
use Rattle.allplans.proofs.Views.{no_round}
use Rattle.allplans.proofs.checker.wrong_round.Goals as goal

pub returns-in-None : goal.returns-in-None
returns-in-None c = no_round c.args.view.claimed.places.now (winners c.args.view.claimed.claims.now) (plan c.args.view.claimed.claims.now) _ (side_word c.args.view.side) c.args.view.heaviest c.in-None.ensures
