use Rattle.std.proofs.Common.{ℕ, arith, rules}
use Rattle.std.proofs.lemmas.Iterator.{YieldsList, YieldsList-from_map}
use Rattle.std.proofs.lemmas.Iterator.Consumers.{max_from_yields_List}
use Rattle.std.proofs.lemmas.Iterator.Adapters.{serves_from_places}
use Rattle.std.proofs.lemmas.Grind.{get_or_default_zero}
use Rattle.endless.specs.Games.{weight}
use Rattle.endless.proofs.MemberLists.{heaviest_listed}
use Rattle.endless.proofs.gather.heaviest.Goals as goal

pub max-heaviest-requires-clause-can : goal.max-heaviest-requires-clause-can
max-heaviest-requires-clause-can g c =
    let list = c.requires.inside.0 in
    let all : YieldsList g.I.Iterator.next_gives (λ (n : ℕ). n) c.map.result.iter list = record { runs = rw c.map.ensures.source c.requires.inside.1 } in
    (rw c.map.ensures.source c.requires.can, serves_from_places all (λ x q k. search rules) (λ x k h is _ _ _ _ _ _. rw c.map.ensures.closure (omega (arith, is, get_or_default_zero list k x h, c.requires.inside.2 k h))))

pub returns : goal.returns
returns g c = λ list yields some.
    let all : YieldsList g.I.Iterator.next_gives (λ (n : ℕ). n) c.map.result.iter list = record { runs = rw c.map.ensures.source yields } in
    heaviest_listed c.args.graph.now list c.max-heaviest.result c.unwrap_or.result (max_from_yields_List c.map.result c.max-heaviest.result c.max-heaviest.ensures.ran (YieldsList-from_map _ (weight c.args.graph.now) all c.map.ensures.closure (λ x r q k. search rules))) c.unwrap_or.ensures some
