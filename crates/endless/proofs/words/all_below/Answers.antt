use Rattle.std.proofs.Common.{rules, tests, ltb, ◌∙◌}
use Rattle.std.proofs.lemmas.Iterator.{YieldsList-from_slice}
use Rattle.std.proofs.lemmas.Iterator.Search.{all_from_yields_List}
use Rattle.endless.proofs.Readers.{all_is_below}
use Rattle.endless.proofs.words.all_below.Goals as goal

pub returns : goal.returns
returns c =
    all_from_yields_List (λ x. ltb x c.args.places) _ _ _ c.all.ensures.ran (YieldsList-from_slice c.args.moves.now cc) (λ x b q k. search (rules, tests))
    ∙ all_is_below c.args.places c.args.moves.now
