use Rattle.std.proofs.Common.{◌≡◌, ◌∙◌, subst, rules}
use Rattle.std.proofs.lemmas.Iterator.{YieldsList-from_slice, YieldsList-from_map, items_from_collect}
use Rattle.std.proofs.lemmas.Result.{IfOk-at_ok, IfOk-weaker, IfErr-weaker}
use Rattle.pgsolver.specs.Form.{priorities_in}
use Rattle.pgsolver.specs.Weights.{Fitted, Unfit}
use Rattle.pgsolver.proofs.weigh.Goals as goal

pub returns : goal.returns
returns c =
    let nodes = c.args.nodes.now in
    let all = items_from_collect c.collect.result c.collect.ensures.ran (YieldsList-from_map _ (λ n. n.first.priority) (YieldsList-from_slice nodes (cc)) c.map.ensures.closure (λ x r q k. search rules)) in
    let is : c.deref.result.now ≡ priorities_in nodes = c.deref.ensures.value ∙ IfOk-at_ok _ c.in_ok-priorities.was all in
    record {
      fitted = IfOk-weaker c.compress.result _ _ (λ v f. subst (λ l. Fitted l v.items) is f) c.compress.ensures.fitted;
      unfit = IfErr-weaker c.compress.result _ _ (λ e f. subst (λ l. Unfit l e) is f) c.compress.ensures.unfit;
    }
