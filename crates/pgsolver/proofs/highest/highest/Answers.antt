use Rattle.std.proofs.Common.{sym, ap, ◌∙◌, rules, tests}
use Rattle.std.proofs.lemmas.Iterator.{YieldsList-from_slice, YieldsList-from_map}
use Rattle.std.proofs.lemmas.Iterator.Consumers.{reduce_from_yields_List}
use Rattle.std.proofs.lemmas.List.Folds.{max_of_map, fold-map}
use Rattle.std.specs.Option.{unwrap_or}
use Rattle.pgsolver.specs.declared.Named.{Named}
use Rattle.pgsolver.proofs.highest.highest.Goals as goal

pub returns : goal.returns
returns c =
    let id = λ (p : Named). p.id in
    let ps = c.args.places.now in
    c.unwrap_or.ensures ∙ ap (λ o. unwrap_or o 0) (reduce_from_yields_List _ c.map.result _ c.max.ensures.ran (YieldsList-from_map _ id (YieldsList-from_slice ps cc) c.map.ensures.closure (λ x b q k. search (rules, tests)))) ∙ max_of_map id ps ∙ sym (fold-map Prim.Native.Nat.max id 0 ps)
