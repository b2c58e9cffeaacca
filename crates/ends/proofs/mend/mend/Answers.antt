use Rattle.std.proofs.Common.{get_or, sym, refl, subst, rules}
use Rattle.ends.specs.Mending.{MendedIs}
use Rattle.ends.proofs.Mending.{mending_none, mending_more, mending_stops}
use Rattle.ends.proofs.mend.mend.Goals as goal

pub loop-index-init : goal.loop-index-init
loop-index-init c = mending_none c.args.words.now c.args.made.now (get_or c.args.words.now 0 0) refl (search rules) (search rules)

pub returns-in_err-copied : goal.returns-in_err-copied
returns-in_err-copied c =
    subst (MendedIs c.args.words.now c.copy_place.new.made) (sym c.from_residual.ensures)
    (mending_stops c.args.words.now c.loop-index.made (get_or c.args.words.now 0 0) c.loop-index.index c.loop-index.at c.loop-index.to c.loop-index-test.true refl c.loop-index.invariant c.in_err-copied.ensures)

pub loop-index-preserved : goal.loop-index-preserved
loop-index-preserved c =
    mending_more c.args.words.now c.loop-index.made (get_or c.args.words.now 0 0) c.loop-index.index c.loop-index.at c.loop-index.to c.copy_place.new.made c.in_ok-copied.copied c.loop-index-test.true refl c.loop-index.invariant c.in_ok-copied.ensures
