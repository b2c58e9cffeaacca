use Rattle.std.proofs.Common.{◌+◌, ◌-◌, ◌∷◌, sym, ap, ◌∙◌, subst, arith}
use Rattle.std.proofs.lemmas.List.{take_rest}
use Rattle.endless.specs.Heads.{Rows, heads_in}
use Rattle.endless.proofs.Heads.{first, rows_long, heads_none}
use Rattle.endless.proofs.place.HeadsIterator.next.Goals as goal

pub returns-then-self-eq0-clause-steps : goal.returns-then-self-eq0-clause-steps
returns-then-self-eq0-clause-steps c = let none = heads_none _ _ c.requires c.if-self-eq0.true in (none, none)

pub read-head-requires : goal.read-head-requires
read-head-requires c = rows_long _ _ (omega arith) c.requires

pub slice_bounds-self-count : goal.slice_bounds-self-count
slice_bounds-self-count c =
    (first _ _ c.read-head.result (omega arith) c.requires c.read-head.ensures.whose c.read-head.ensures.weight c.read-head.ensures.moves).long

pub slice_bounds-self-start : goal.slice_bounds-self-start
slice_bounds-self-start c =
    (first _ _ c.read-head.result (omega arith) c.requires c.read-head.ensures.whose c.read-head.ensures.weight c.read-head.ensures.moves).long

pub returns : goal.returns
returns c =
    let f = first _ _ c.read-head.result (omega arith) c.requires c.read-head.ensures.whose c.read-head.ensures.weight c.read-head.ensures.moves in
    let rest = sym (take_rest c.args.self.now.words.now (3 + c.read-head.result.moves)) in
    let others = subst (Rows (c.args.self.now.left - 1)) rest f.others in
    record {
      steps = f.is ∙ ap (λ l. c.read-head.result ∷ heads_in (c.args.self.now.left - 1) l) rest;
      goes = record { on = λ _. (others, tt, omega arith); keeps = others; rests = λ _. tt };
    }
