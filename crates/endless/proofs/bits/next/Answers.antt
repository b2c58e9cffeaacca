use Rattle.std.proofs.Common.{◌≡◌, ℕ, ◌+◌, ◌*◌, ◌/◌, [], ◌∷◌, ◌++◌, length, sym, subst, arith}
use Rattle.std.proofs.lemmas.List.{length-append}
use Rattle.std.proofs.lemmas.Iterator.{YieldsList-from_slice}
use Rattle.std.proofs.lemmas.Iterator.Adapters.{YieldsList-from_skip}
use Rattle.std.proofs.lemmas.Iterator.Consumers.{YieldsList-from_enumerate, YieldsList-turn, YieldsList-end}
use Rattle.endless.specs.Bits.{digit, members, Least, NoneFrom}
use Rattle.endless.proofs.Scans.{Passed, passed_more, passed_found, passed_all, numbered, numbered_end}
use Rattle.endless.proofs.bits.next.Goals as goal

pub returns-in-Some-lowest : goal.returns-in-Some-lowest
returns-in-Some-lowest c =
    let road = YieldsList-from_skip {s = c.into_iter-k-iterator.result} (c.args.from / 32) (YieldsList-from_enumerate (YieldsList-from_slice c.args.set.now cc) cc) cc in
    let turn = YieldsList-turn road c.loop-k.yielded _ c.loop-k.yielded_by _ c.next.new.self (c.in-Some.k, c.in-Some.word) c.in-Some.is c.next.ensures.steps in
    let at = numbered c.args.set.now (c.args.from / 32) (length c.loop-k.yielded) c.in-Some.k c.in-Some.word.now turn.0 turn.1 in
    let least = subst (λ (w : ℕ). Least (digit w) c.loop-k.start c.in-Some-lowest.bit) at.1 c.in-Some-lowest.ensures.1 in
    subst (λ (k : ℕ). Least (members c.args.set.now) c.args.from (32 * k + c.in-Some-lowest.bit)) (sym at.0)
    (passed_found c.args.set.now c.args.from (c.args.from / 32 + length c.loop-k.yielded) c.loop-k.start c.loop-k.invariant.1 c.in-Some-lowest.bit c.in-Some-lowest.ensures.0 least)

pub loop-k-preserved : goal.loop-k-preserved
loop-k-preserved c =
    let road = YieldsList-from_skip {s = c.into_iter-k-iterator.result} (c.args.from / 32) (YieldsList-from_enumerate (YieldsList-from_slice c.args.set.now cc) cc) cc in
    let turn = YieldsList-turn road c.loop-k.yielded _ c.loop-k.yielded_by _ c.next.new.self (c.in-Some.k, c.in-Some.word) c.in-Some.is c.next.ensures.steps in
    let at = numbered c.args.set.now (c.args.from / 32) (length c.loop-k.yielded) c.in-Some.k c.in-Some.word.now turn.0 turn.1 in
    let none = subst (λ (w : ℕ). NoneFrom (digit w) c.loop-k.start) at.1 c.in_default.ensures in
    let more : c.args.from / 32 + length c.loop-k.yielded + 1 ≡ c.args.from / 32 + length (c.loop-k.yielded ++ ((c.in-Some.k, c.in-Some.word) ∷ [])) =
    omega (arith, length-append c.loop-k.yielded ((c.in-Some.k, c.in-Some.word) ∷ [])) in (
      omega arith,
      subst (λ (k : ℕ). Passed (members c.args.set.now) c.args.from (32 * k + 0)) more
          (passed_more c.args.set.now c.args.from (c.args.from / 32 + length c.loop-k.yielded) c.loop-k.start c.loop-k.invariant.1 c.loop-k.invariant.0 none),
    )

pub returns : goal.returns
returns c =
    let road = YieldsList-from_skip {s = c.into_iter-k-iterator.result} (c.args.from / 32) (YieldsList-from_enumerate (YieldsList-from_slice c.args.set.now cc) cc) cc in
    let end = YieldsList-end road c.loop-k.yielded _ c.loop-k.yielded_by _ c.next.new.self c.in-None.is c.next.ensures.steps in
    passed_all c.args.set.now c.args.from (c.args.from / 32 + length c.loop-k.yielded) c.loop-k.start c.loop-k.invariant.1
    (numbered_end c.args.set.now (c.args.from / 32) (length c.loop-k.yielded) end.1)
