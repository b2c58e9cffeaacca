use Rattle.std.proofs.Common.{subst}
use Rattle.endless.specs.Heads.{HeadIs}
use Rattle.endless.proofs.Heads.{head_there, head_is}
use Rattle.endless.proofs.graph.Places.head.Goals as goal

pub unwrap-requires : goal.unwrap-requires
unwrap-requires c = head_there c.args.self.now c.args.n c.requires c.words_from.ensures.are c.words_from.ensures.playable c.read.result c.read.ensures

pub returns : goal.returns
returns c =
    let is = head_is c.args.self.now c.args.n c.requires c.words_from.ensures.are c.unwrap.result (subst (HeadIs c.words_from.result.now) c.unwrap.ensures c.read.ensures) in
    record { whose = is.0; weight = is.1; moves = is.2; playable = c.words_from.ensures.playable }
