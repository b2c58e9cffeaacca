use Rattle.std.proofs.Common.{length, drop, sym, ap, ◌∙◌, arith}
use Rattle.std.proofs.lemmas.List.{take_rest}
use Rattle.endless.proofs.Heads.{heads_are}
use Rattle.endless.proofs.View.{words_are}
use Rattle.endless.proofs.words.GameWords.heads.Goals as goal

pub returns : goal.returns
returns c =
    let are = words_are c.self.view_is c.self.invariant in
    let many = sym c.len.ensures.len in
    let rest = take_rest c.self.inside.words.now 1 ∙ ap (drop 1) are in
    record {
      rows = (c.args.self.now, many, rest);
      are = heads_are c.len.result _ c.args.self.now many rest;
      playable = c.len.ensures.playable;
      short = omega (arith, ap length are, c.self.told);
    }
