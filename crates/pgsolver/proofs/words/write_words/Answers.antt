use Rattle.std.proofs.Common.{◌≡◌, ◌+◌, ◌<◌, List, [], ◌∷◌, ◌++◌, length, get_or, vec_items, sym, subst, arith}
use Rattle.std.specs.List.{enumerate_from}
use Rattle.std.proofs.lemmas.Iterator.{YieldsList-from_slice, YieldsList-from_zip}
use Rattle.std.proofs.lemmas.Iterator.Consumers.{YieldsList-from_enumerate, YieldsList-turn, YieldsList-end}
use Rattle.std.proofs.lemmas.List.{length_push}
use Rattle.std.proofs.lemmas.List.FromFn.{length-enumerate_from}
use Rattle.std.proofs.lemmas.Result.{err_from_is_err_and}
use Rattle.std.proofs.lemmas.Slice.Zip.{length-zip}
use Rattle.pgsolver.specs.Form.{Entry}
use Rattle.pgsolver.proofs.Writes.{LeftWords, paired, goes_few, words_more, words_all, words_wrong}
use Rattle.pgsolver.proofs.words.write_words.Goals as goal
use Rattle.pgsolver.proofs.words.write_words.Goals.{In-Some}

-- the node and the weight of this turn
turn : (c : In-Some) → (length c.loop-n.yielded < length c.args.nodes.now) × (length c.loop-n.yielded ≡ c.in-Some.n) × (c.in-Some.node.now ≡ get_or c.args.nodes.now c.in-Some.n c.in-Some.node.now) × (c.in-Some.weight.now ≡ get_or c.args.weights.now c.in-Some.n 0)
turn c =
    let t = YieldsList-turn (YieldsList-from_zip (YieldsList-from_enumerate (YieldsList-from_slice c.args.nodes.now (cc)) (cc)) (YieldsList-from_slice c.args.weights.now (cc))) c.loop-n.yielded c.loop-n.n-iterator c.loop-n.yielded_by c.next.result c.next.new.self ((c.in-Some.n, c.in-Some.node), c.in-Some.weight) c.in-Some.is c.next.ensures.steps in
    paired c.args.nodes.now c.args.weights.now (length c.loop-n.yielded) c.in-Some.n c.in-Some.weight.now c.in-Some.node.now t.0 t.1

-- what was left to write before this turn
left : (c : In-Some) → LeftWords c.args.places.now c.args.nodes.now c.args.weights.now (vec_items c.loop-n.words) c.in-Some.n
left c = subst (λ n. LeftWords c.args.places.now c.args.nodes.now c.args.weights.now (vec_items c.loop-n.words) n) (turn c).1 c.loop-n.invariant

low : (c : In-Some) → c.in-Some.n < length c.args.nodes.now
low c = omega (arith, (turn c).0, (turn c).1)

is_entry : (c : In-Some) → get_or c.args.nodes.now c.in-Some.n c.in-Some.node.now ≡ c.in-Some.node.now
is_entry c = sym (turn c).2

pub write_place-requires : goal.write_place-requires
write_place-requires c =
    let s = (goal.at.write_place-requires c).In-Some in
    goes_few c.args.places.now c.args.nodes.now _ _ c.requires _ (left s) (low s) _ (is_entry s)

pub returns-in_err-write_place : goal.returns-in_err-write_place
returns-in_err-write_place c =
    let p = err_from_is_err_and c.from_residual-in_err-write_place.result c.from_residual-in_err-write_place.ensures.1 in
    let s = (goal.at.returns-in_err-write_place c).In-Some in
    let es : List Entry = c.args.nodes.now in
    rw (p.1, p.2) (words_wrong c.args.places.now es _ _ c.requires _ (left s) (low s) _ (is_entry s) c.in-Some.weight.now (turn s).3 (vec_items c.write_place.new.words) _ c.in_err-write_place.ensures)

pub loop-n-preserved : goal.loop-n-preserved
loop-n-preserved c =
    let s = (goal.at.loop-n-preserved c).In-Some in
    let es : List Entry = c.args.nodes.now in
    let next = words_more c.args.places.now es _ _ c.requires _ (left s) (low s) _ (is_entry s) c.in-Some.weight.now (turn s).3 (vec_items c.write_place.new.words) c.in_ok-write_place.ensures in
    let far : c.in-Some.n + 1 ≡ length (c.loop-n.yielded ++ ((c.in-Some.n, c.in-Some.node), c.in-Some.weight) ∷ []) = omega (arith, (turn s).1, length_push c.loop-n.yielded ((c.in-Some.n, c.in-Some.node), c.in-Some.weight)) in
    subst (λ n. LeftWords c.args.places.now es c.args.weights.now (vec_items c.write_place.new.words) n) far next

pub returns : goal.returns
returns c =
    let nodes = c.args.nodes.now in
    let ws = c.args.weights.now in
    let t = YieldsList-end (YieldsList-from_zip (YieldsList-from_enumerate (YieldsList-from_slice nodes (cc)) (cc)) (YieldsList-from_slice ws (cc))) c.loop-n.yielded c.loop-n.n-iterator c.loop-n.yielded_by c.next.result c.next.new.self c.in-None.is c.next.ensures.steps in
    words_all _ nodes _ _ c.requires _ c.loop-n.invariant (omega (arith, t.1, length-zip (enumerate_from 0 nodes) ws, length-enumerate_from 0 nodes, c.requires.weighed))
