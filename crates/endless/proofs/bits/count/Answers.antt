use Rattle.std.proofs.Common.{◌∙◌, rules, of_calls, tests, arith}
use Rattle.std.proofs.lemmas.Iterator.{YieldsList-from_slice, YieldsList-from_map}
use Rattle.std.proofs.lemmas.Iterator.Consumers.{sum_by_from_yields_List, fits_by_from_yields_list}
use lib.Count.{ones}
use Rattle.endless.proofs.Scans.{ones_summed}
use Rattle.endless.proofs.SetLaws.{size_le}
use Rattle.endless.proofs.bits.count.Goals as goal

pub sum-requires : goal.sum-requires
sum-requires c =
    let fits = ones_summed c.args.set.now (λ k. omega (arith, c.type_inv.set k)) in
    record {
      can = search of_calls;
      finite = search of_calls;
      fits = fits_by_from_yields_list _ _ c.map.result _ (YieldsList-from_map _ ones (YieldsList-from_slice c.args.set.now cc) c.map.ensures.closure (λ x r q k. search (rules, tests)))
          (omega (arith, fits, size_le c.args.set.now));
    }

pub returns : goal.returns
returns c =
    sum_by_from_yields_List _ _ c.map.result _ c.sum.ensures.ran (YieldsList-from_map _ ones (YieldsList-from_slice c.args.set.now cc) c.map.ensures.closure (λ x r q k. search (rules, tests)))
    ∙ ones_summed c.args.set.now (λ k. omega (arith, c.type_inv.set k))
